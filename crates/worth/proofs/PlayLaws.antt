-- What our side can take, and what the others can hold it to. Assumes nothing.
use Rattle.std.proofs.Common.{◌≡◌, ℕ, ◌-◌, ◌≤◌, arith}
use Rattle.std.proofs.lemmas.Bool.{both_ways}
use Rattle.cards.specs.Table.{Table, Sound}
use Rattle.tricks.specs.Rules.{our_turn, may, gains}
use Rattle.tricks.specs.Plays.{Takes, none, we_play, they_play, Held, out_of_cards, they_do, we_do, Worth}
use Rattle.tricks.specs.Statements.{left_after}
use Rattle.tricks.proofs.Stays.{keeps_sound}
use Rattle.worth.specs.Statements.{Fewer, AtMost}
use Rattle.tricks.proofs.CardsLeft.{some_trick, gains_fit}

-- who can take more can take fewer, and who can hold to less can hold to more
pub takes_fewer : {k : ℕ} {t : Table} (j : ℕ) → j ≤ k → Takes k t → Takes j t
takes_fewer j h (none {t}) = let e : j ≡ 0 = omega arith in rw e none
takes_fewer j h (we_play {t = t} c o m r) = we_play c o m (takes_fewer (j - gains t c) (omega arith) r)
takes_fewer j h (they_play {t = t} c o m f) = they_play c o m (λ d md. takes_fewer (j - gains t d) (omega arith) (f d md))

pub fewer : Fewer
fewer t k j h r = takes_fewer j h r

pub held_more : {k : ℕ} {t : Table} (j : ℕ) → k ≤ j → Held k t → Held j t
held_more j h (out_of_cards f) = out_of_cards f
held_more j h (they_do {t = t} c o m g r) = they_do c o m (omega arith) (held_more (j - gains t c) (omega arith) r)
held_more j h (we_do {t = t} c o m g f) =
    we_do c o m (λ d md. let b = g d md in omega arith) (λ d md. let b = g d md in held_more (j - gains t d) (omega arith) (f d md))

-- nobody takes more than the others can hold it to
pub takes_held : {a b : ℕ} {t : Table} → Takes a t → Held b t → a ≤ b
takes_held none r = omega arith
takes_held (we_play {t = t} c o m r) (out_of_cards n) = absurd (both_ways (may t c) (n c) m)
takes_held (we_play {t = t} c o m r) (they_do d p k g s) = absurd (both_ways (our_turn t) p o)
takes_held (we_play {t = t} c o m r) (we_do d p k g f) = let b = g c m in let h = takes_held r (f c m) in omega arith
takes_held (they_play {t = t} c o m f) (out_of_cards n) = absurd (both_ways (may t c) (n c) m)
takes_held (they_play {t = t} c o m f) (they_do d p k g s) = let h = takes_held (f d k) s in omega arith
takes_held (they_play {t = t} c o m f) (we_do d p k g s) = absurd (both_ways (our_turn t) o p)

-- a table has one worth
pub worth_once : (t : Table) (n v w : ℕ) → Sound t n → Worth t v → Worth t w → v ≡ w
worth_once t n v w s (a, b) (c, d) = omega (arith, takes_held a d, takes_held c b)

-- our side takes at most as many tricks as are left
takes_within : {t : Table} {k : ℕ} (n : ℕ) → Sound t n → Takes k t → k ≤ n
takes_within n s none = omega arith
takes_within n s (we_play {t = t} c o m r) =
    let h = takes_within (left_after t n) (keeps_sound t n c s m) r in
    omega (arith, gains_fit t n c (some_trick t n c s m))
takes_within n s (they_play {t = t} c o m f) =
    let h = takes_within (left_after t n) (keeps_sound t n c s m) (f c m) in
    omega (arith, gains_fit t n c (some_trick t n c s m))

pub at_most : AtMost
at_most t n k s r = takes_within n s r
