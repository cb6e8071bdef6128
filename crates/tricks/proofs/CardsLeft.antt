-- The cards in the hands and the tricks left, and what a card makes of them. Assumes nothing.
use Rattle.std.proofs.Common.{◌≡◌, ℕ, zero, suc, ◌+◌, ◌*◌, ◌%◌, ◌<◌, ◌≤◌, true, false, eqb, ltb, length, refl, ap, inl, inr, arith}
use Rattle.std.proofs.lemmas.Bool.{le-ltb, cases_Bool, cases_lt, both_ways}
use Rattle.cards.specs.Table.{Table, one, deck, count, cards_left, Sound}
use Rattle.cards.proofs.CountLaws.{count_none, count_pos}
use Rattle.tricks.specs.Rules.{turn, may, after, gains}
use Rattle.tricks.specs.Statements.{left_after}
use Rattle.tricks.proofs.CountLaws.{count_after}
use Rattle.tricks.proofs.MayLaws.{may_parts, somebody_may}

-- the four players, from any of them on
all_round : (f : ℕ → ℕ) (l : ℕ) → l < 4 → (f ((l + 0) % 4) + f ((l + 1) % 4)) + (f ((l + 2) % 4) + f ((l + 3) % 4)) ≡ (f 0 + f 1) + (f 2 + f 3)
all_round f zero l = refl
all_round f (suc zero) l = omega arith
all_round f (suc (suc zero)) l = omega arith
all_round f (suc (suc (suc zero))) l = omega arith
all_round f (suc (suc (suc (suc p)))) l = absurd (omega arith)

-- m cards in the trick are those of its first m players
each_one : (m : ℕ) → m < 4 → (one (ltb 0 m) + one (ltb 1 m)) + (one (ltb 2 m) + one (ltb 3 m)) ≡ m
each_one m l = grind arith

-- just one of the four is to play
one_plays : (p : ℕ) → p < 4 → (one (eqb 0 p) + one (eqb 1 p)) + (one (eqb 2 p) + one (eqb 3 p)) ≡ 1
one_plays p l = grind arith

-- the cards in the hands and those on the table make up the tricks left
pub cards_are : (t : Table) (n : ℕ) → Sound t n → cards_left t + length t.trick ≡ 4 * n
cards_are t n s =
    let round = all_round (λ p. count (t.hand p) deck) t.leader s.leads in
    let first = s.have 0 (omega arith) in
    let second = s.have 1 (omega arith) in
    let third = s.have 2 (omega arith) in
    let fourth = s.have 3 (omega arith) in
    omega (arith, each_one (length t.trick) s.short)

-- who is to play has a card for each trick left
pub own_cards : (t : Table) (n : ℕ) → Sound t n → count (t.hand (turn t)) deck ≡ n
own_cards t n s =
    let had = s.have (length t.trick) s.short in
    let none_yet : one (ltb (length t.trick) (length t.trick)) ≡ 0 = ap one (le-ltb _ _ (omega arith)) in
    omega arith

-- where who is to play has no card, nobody has
pub out_of_cards : (t : Table) (n : ℕ) → Sound t n → ((c : ℕ) → t.hand (turn t) c ≡ false) → cards_left t ≡ 0
out_of_cards t n s empty = omega (arith, own_cards t n s, count_none (t.hand (turn t)) deck empty, cards_are t n s)

-- where a card may be played a trick is left, and where none may be, none is
pub some_trick : (t : Table) (n c : ℕ) → Sound t n → may t c ≡ true → 0 < n
some_trick t n c s m = let p = may_parts t c m in omega (arith, own_cards t n s, count_pos (t.hand (turn t)) c deck p.card p.owned)

pub some_card : (t : Table) (n : ℕ) → Sound t n → 0 < n → (c : ℕ) × (may t c ≡ true)
some_card t n s l = somebody_may t n s (omega (arith, own_cards t n s))

pub no_trick : (t : Table) (n : ℕ) → Sound t n → ((c : ℕ) → may t c ≡ false) → n ≡ 0
no_trick t n s none = elim (cases_lt 0 n) [
  | inl l ↦ let (c, m) = some_card t n s l in absurd (both_ways _ (none c) m)
  | inr l ↦ omega arith
]

-- a card played is one fewer
pub one_fewer : (t : Table) (c : ℕ) → may t c ≡ true → cards_left (after t c) + 1 ≡ cards_left t
unfolding after
one_fewer t c m =
    let p = may_parts t c m in
    let hand = λ (q : ℕ). count_after t c q p.owned p.card in
    omega (arith, hand 0, hand 1, hand 2, hand 3, one_plays (turn t) (omega arith))

-- with no card in the hands none may be played
pub none_may : (t : Table) (c : ℕ) → cards_left t ≡ 0 → may t c ≡ false
none_may t c e = elim (cases_Bool (may t c)) [ inl m ↦ absurd (omega (arith, one_fewer t c m)) | inr m ↦ m ]

-- what a card gains is no more than the tricks that it ends
pub gains_fit : (t : Table) (n c : ℕ) → 0 < n → gains t c + left_after t n ≤ n
unfolding gains
gains_fit t n c l = grind arith
