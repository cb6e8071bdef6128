-- The value of a table is its worth, and the laws of it that a search rests on. Assumes nothing.
use Rattle.std.proofs.Common.{◌≡◌, ℕ, zero, suc, ◌+◌, ◌-◌, ◌<◌, ◌≤◌, Bool, true, false, sym, refl, ap, ◌∙◌, subst, inl, inr, arith}
use Rattle.std.proofs.lemmas.Bool.{cases_Bool}
use Rattle.cards.specs.Table.{Table, deck, Sound, cards_left}
use Rattle.tricks.specs.Rules.{our_turn, may, after, gains}
use Rattle.tricks.specs.Plays.{Takes, none, we_play, they_play, Held, out_of_cards, they_do, we_do, Worth}
use Rattle.tricks.specs.Statements.{left_after}
use Rattle.tricks.proofs.MayLaws.{may_parts}
use Rattle.tricks.proofs.Stays.{keeps_sound}
use Rattle.worth.specs.Value.{tricks, tricks_at, best_below, value, worth_of}
use Rattle.worth.specs.Statements.{OneWorth, ValueIsWorth}
use Rattle.tricks.proofs.CardsLeft.{cards_are, some_trick, some_card, none_may, one_fewer, gains_fit}
use Rattle.worth.proofs.PlayLaws.{takes_fewer, held_more, worth_once, at_most}
use Rattle.worth.proofs.BestLaws.{by_card, none_better, best_given, best_same}

-- where v is the worth after each card, the best over all cards is the worth before
module _ (t : Table) (n : ℕ) (s : Sound t n) (v : Table → ℕ) (is : (c : ℕ) → may t c ≡ true → Worth (after t c) (v (after t c))) where
  -- no card gives more than the tricks left
  by_low : (c : ℕ) → may t c ≡ true → by_card v t c ≤ n
  by_low c m = omega (arith, at_most (after t c) (left_after t n) _ (keeps_sound t n c s m) (is c m).0, gains_fit t n c (some_trick t n c s m))

  abbrev all : ℕ
  all = best_below (may t) v n t deck

  -- all is no worse than what a card gives
  ours_most : our_turn t ≡ true → (c : ℕ) → may t c ≡ true → by_card v t c ≤ all
  ours_most o c m = rw o at (none_better (may t) v n t deck c (may_parts t c m).card m)

  theirs_least : our_turn t ≡ false → (c : ℕ) → may t c ≡ true → all ≤ by_card v t c
  theirs_least o c m = rw o at (none_better (may t) v n t deck c (may_parts t c m).card m)

  -- where our side is to play, it takes all by the best card, and the others hold it to that after each
  ours : our_turn t ≡ true → (c : ℕ) → may t c ≡ true → Worth t all
  ours o c m = (takes, we_do c o m (λ d k. omega (arith, ours_most o d k)) (λ d k. held_more (all - gains t d) (omega (arith, ours_most o d k)) (is d k).1))
    where
      takes : Takes all t
      takes = elim (best_given (may t) v n t deck) [
        | inl e ↦ rw (e, o) none
        | inr (d, _, k, e) ↦ we_play d o k (takes_fewer (all - gains t d) (omega arith) (is d k).0)
      ]

  -- where the others are to play, they hold it to all by the best card, and it takes that after each
  theirs : our_turn t ≡ false → (c : ℕ) → may t c ≡ true → Worth t all
  theirs o c m = (they_play c o m (λ d k. takes_fewer (all - gains t d) (omega (arith, theirs_least o d k)) (is d k).0), held)
    where
      hold : (d : ℕ) → may t d ≡ true → by_card v t d ≤ all → Held all t
      hold d k e = they_do d o k (omega arith) (held_more (all - gains t d) (omega arith) (is d k).1)

      held : Held all t
      held = elim (best_given (may t) v n t deck) [
        | inl e ↦ let top : all ≡ n = rw (e, o) in hold c m (omega (arith, by_low c m))
        | inr (d, _, k, e) ↦ hold d k (omega arith)
      ]

  best_is_worth : (c : ℕ) → may t c ≡ true → Worth t all
  best_is_worth c m = elim (cases_Bool (our_turn t)) [ inl o ↦ ours o c m | inr o ↦ theirs o c m ]

-- the tricks left, by the cards
pub tricks_left : (t : Table) (n : ℕ) → Sound t n → tricks_at t ≡ n
tricks_left t n s = omega (arith, cards_are t n s)

value_worth : (k : ℕ) (t : Table) (n : ℕ) → Sound t n → cards_left t ≡ k → Worth t (value k t)
unfolding value
value_worth zero t n s e = (none, out_of_cards (λ c. none_may t c e))
value_worth (suc k) t n s e =
    let (c, m) = some_card t n s (omega (arith, cards_are t n s)) in
    let after-each : (d : ℕ) → may t d ≡ true → Worth (after t d) (value k (after t d)) =
    λ d p. value_worth k (after t d) (left_after t n) (keeps_sound t n d s p) (omega (arith, one_fewer t d p)) in
    let left : n ≡ tricks (suc k) t = sym (tricks_left t n s) ∙ ap (λ (j : ℕ). tricks j t) e in
    subst (λ (x : ℕ). Worth t (best_below (may t) (value k) x t deck)) left (best_is_worth t n s (value k) after-each c m)

pub value_is_worth : ValueIsWorth
value_is_worth t n s = value_worth (cards_left t) t n s refl

pub worth_is : (t : Table) (n v : ℕ) → Sound t n → Worth t v → v ≡ worth_of t
worth_is t n v s w = worth_once t n v (worth_of t) s w (value_is_worth t n s)

pub worth_low : (t : Table) (n : ℕ) → Sound t n → worth_of t ≤ n
worth_low t n s = at_most t n (worth_of t) s (value_is_worth t n s).0

pub one_worth : OneWorth
one_worth t n s = (worth_of t, value_is_worth t n s, worth_low t n s, λ w x. worth_is t n w s x)

-- with no cards left the worth is none, else the best over the cards that may be played
pub worth_none : (t : Table) → cards_left t ≡ 0 → worth_of t ≡ 0
unfolding value
worth_none t e = ap (λ (k : ℕ). value k t) e

pub worth_step : (t : Table) (n : ℕ) → Sound t n → 0 < cards_left t → worth_of t ≡ best_below (may t) worth_of n t deck
unfolding value
worth_step t n s some =
    ap (λ (k : ℕ). value k t) more
    ∙ ap (λ (k : ℕ). best_below (may t) (value (cards_left t - 1)) k t deck) left
    ∙ best_same (may t) (value (cards_left t - 1)) (may t) worth_of n t deck
    (λ c l m. (c, l, m, ap (λ (k : ℕ). gains t c + value k (after t c)) (same c m)))
    (λ c l m. (c, l, m, ap (λ (k : ℕ). gains t c + value k (after t c)) (sym (same c m))))
  where
    more : cards_left t ≡ suc (cards_left t - 1)
    more = omega arith

    left : tricks (suc (cards_left t - 1)) t ≡ n
    left = ap (λ (k : ℕ). tricks k t) (sym more) ∙ tricks_left t n s

    same : (c : ℕ) → may t c ≡ true → cards_left t - 1 ≡ cards_left (after t c)
    same c m = omega (arith, one_fewer t c m)

-- a set of cards that may be played
abbrev pub PlayableSet : Table → (ℕ → Bool) → Type 0
PlayableSet t set = (c : ℕ) → set c ≡ true → may t c ≡ true

-- cards can be left out for which others stand in
pub skipping : (set : ℕ → Bool) (t : Table) (n : ℕ) → PlayableSet t set →
    ((c : ℕ) → may t c ≡ true → (d : ℕ) × (set d ≡ true) × (gains t c ≡ gains t d) × (worth_of (after t c) ≡ worth_of (after t d))) →
    best_below set worth_of n t deck ≡ best_below (may t) worth_of n t deck
skipping set t n legal stands-in =
    best_same set worth_of (may t) worth_of n t deck
    (λ c l y. (c, l, legal c y, refl))
    (λ c l m. let (d, y, g, r) = stands-in c m in (d, (may_parts t d (legal d y)).card, y, omega arith))

-- no card gives more than the tricks left
pub card_within : (t : Table) (n c : ℕ) → Sound t n → may t c ≡ true → gains t c + worth_of (after t c) ≤ n
card_within t n c s m = by_low t n s worth_of (λ d k. value_is_worth (after t d) (left_after t n) (keeps_sound t n d s k)) c m
