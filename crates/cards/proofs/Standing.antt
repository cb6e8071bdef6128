-- Where the cards of a deal stand, and which are among them. Assumes nothing.
use Rattle.std.proofs.Common.{◌≡◌, ℕ, zero, suc, ◌+◌, ◌<◌, ◌≤◌, ◌||◌, ◌⊎◌, List, length, take, drop, Decides, inl, inr, arith, drop-cons}
use Rattle.std.proofs.lemmas.Bool.{cases_eq, cases_lt, false≢true}
use Rattle.std.proofs.lemmas.List.{drop_all}
use Rattle.std.proofs.lemmas.Bool.Decides.{Decides-at, Decides-like, Decides-or, Decides-eqb}
use Rattle.cards.specs.Deal.{byte, start_of, number_byte, cards_of, before, has}
use Rattle.cards.specs.Faults.{TrickCard, HandCard}
use Rattle.cards.proofs.DealLaws.{has_append}

-- a byte stands at p, and p is one of the n places from i on
abbrev pub Among : List ℕ → ℕ → ℕ → ℕ → Type 0
Among bs i n p = (i ≤ p) × (p < i + n) × (p < length bs)

-- is x among the bytes of some places
decides_part : (bs : List ℕ) (i n x : ℕ) → Decides (has (take n (drop i bs)) x) ((p : ℕ) × Among bs i n p × (byte bs p ≡ x))
unfolding has
decides_part bs i zero x = (λ e. absurd (false≢true e), λ h. absurd (omega arith))
decides_part bs i (suc n) x = elim (cases_lt i (length bs)) [
  | inl l ↦
      rw (drop-cons bs i 0 l)
      (Decides-like _ (λ h. grind arith) (λ a. grind (arith, cases_eq a.0 i)) (Decides-or _ _ (Decides-eqb x (byte bs i)) (decides_part bs (suc i) n x)))
  | inr l ↦
      rw (drop_all i bs l) (λ e. absurd (false≢true e), λ h. absurd (omega arith))
]

pub decides_cards : (bs : List ℕ) (k x : ℕ) → Decides (has (cards_of bs k) x) ((p : ℕ) × HandCard bs k p × (byte bs p ≡ x))
unfolding start_of
decides_cards bs k x =
    Decides-like _ (λ h. (h.0, (omega arith, h.1.1, h.1.2), h.2)) (λ h. (h.0, (omega arith, h.1.1, h.1.2), h.2))
    (decides_part bs (start_of bs k + 1) (number_byte bs k) x)

-- a card of the trick, or of a player below k, stands at p
abbrev pub CardBefore : List ℕ → ℕ → ℕ → Type 0
CardBefore bs k p = TrickCard bs p ⊎ ((q : ℕ) × (q < k) × HandCard bs q p)

pub decides_before : (bs : List ℕ) (k x : ℕ) → Decides (has (before bs k) x) ((p : ℕ) × CardBefore bs k p × (byte bs p ≡ x))
unfolding before start_of
decides_before bs zero x = Decides-like _ (λ h. (h.0, inl h.1, h.2)) (λ h. (h.0, elim h.1 [ inl t ↦ t | inr a ↦ absurd (omega arith) ], h.2)) (decides_part bs 3 (byte bs 2) x)
decides_before bs (suc k) x =
    Decides-at _ (has (before bs k) x || has (cards_of bs k) x) (has_append (before bs k) (cards_of bs k) x)
    (Decides-like _ (λ h. grind arith) (λ h. elim h.1 [ inl t ↦ inl (h.0, inl t, h.2) | inr c ↦ grind (arith, cases_eq c.0 k) ])
    (Decides-or _ _ (decides_before bs k x) (decides_cards bs k x)))
