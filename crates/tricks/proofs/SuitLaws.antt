-- The suits of a hand, and the suit led. Assumes nothing.
use Rattle.std.proofs.Common.{◌≡◌, ℕ, zero, suc, ◌<◌, Bool, true, false, not, ◌&&◌, ◌||◌, eqb, List, [], ◌∷◌, length, get_or, take, refl, inl, inr, arith}
use Rattle.std.proofs.lemmas.Bool.{false≢true, eqb-true, cases_Bool, and_parts, and_left, or_cases, or_parts, or_from}
use Rattle.cards.specs.Table.{deck, suit, has_suit}
use Rattle.tricks.specs.Rules.{follows}

-- a hand that has a suit has a card of it
pub has_suit_some : (h : ℕ → Bool) (s n : ℕ) → has_suit h s n ≡ true → (c : ℕ) × (c < n) × (h c ≡ true) × (suit c ≡ s)
unfolding has_suit
has_suit_some h s zero e = absurd (false≢true e)
has_suit_some h s (suc n) e = elim (or_cases _ _ e) [
  | inl f ↦ let (a, b) = and_parts _ _ f in (n, omega arith, a, eqb-true _ _ b)
  | inr f ↦ let (c, l, k, q) = has_suit_some h s n f in (c, omega arith, k, q)
]

-- a hand with fewer cards has no suit that the other has not
pub fewer_suits : (h k : ℕ → Bool) (s n : ℕ) → ((x : ℕ) → k x ≡ true → h x ≡ true) → has_suit h s n ≡ false → has_suit k s n ≡ false
unfolding has_suit
fewer_suits h k s zero f e = refl
fewer_suits h k s (suc n) f e =
    let (here, rest) = or_parts (h n && eqb (suit n) s) (has_suit h s n) e in
    let gone : (k n && eqb (suit n) s) ≡ false = elim (cases_Bool (k n)) [ inl y ↦ rw y (rw (f n y) at here) | inr z ↦ and_left _ _ z ] in
    or_from _ _ gone (fewer_suits h k s n f rest)

-- what a trick of at least a card asks of the next
pub follows_led : (h : ℕ → Bool) (trick : List ℕ) (n c : ℕ) → (n ≡ 0 → ⊥) → 0 < length trick →
    follows h (take n trick) c ≡ (eqb (suit c) (suit (get_or trick 0 0)) || not (has_suit h (suit (get_or trick 0 0)) deck))
unfolding follows
follows_led h [] n c p l = absurd (omega arith)
follows_led h (x ∷ xs) zero c p l = absurd (p refl)
follows_led h (x ∷ xs) (suc n) c p l = refl
