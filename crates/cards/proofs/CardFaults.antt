-- The first card of a deal that is none or stands there twice. Assumes nothing.
use Rattle.std.proofs.Common.{◌≡◌, ℕ, zero, suc, ◌+◌, ◌<◌, ◌≤◌, Bool, false, not, ◌||◌, eqb, ltb, ◌⊎◌, List, [], length, take, drop, Decides, inl, inr, arith, drop-cons}
use Rattle.std.proofs.lemmas.Bool.{cases_eq, cases_lt, false≢true}
use Rattle.std.proofs.lemmas.List.{drop_all}
use Rattle.std.proofs.lemmas.Bool.Decides.{Decides-like, Decides-not, Decides-or, Decides-eqb, Decides-ltb}
use Rattle.cards.specs.Table.{deck}
use Rattle.cards.specs.Deal.{byte, start_of, number_byte, trick_of, before, has, first_bad, hand_fault, card_fault}
use Rattle.cards.specs.Faults.{TrickCard, HandCard, CardPlace, Fault, bad_card}
use Rattle.cards.specs.declared.room.Room.{Room}
use Rattle.cards.proofs.Finds.{Finds, finds_same, finds_nothing, finds_fault, finds_or, finds_pick, finds_first}
use Rattle.cards.proofs.DealLaws.{start_next, start_mono}
use Rattle.cards.proofs.Standing.{Among, CardBefore, decides_before}

-- the card at p is none, or the same as one that was seen, or as one from place i on before it
abbrev Bad : List ℕ → (ℕ → Type 0) → ℕ → ℕ → Type 0
Bad bs Seen i p = (deck ≤ byte bs p) ⊎ ((q : ℕ) × (Seen q ⊎ ((i ≤ q) × (q < p))) × (byte bs q ≡ byte bs p))

-- the set old has the cards at the places seen
abbrev Holds : List ℕ → (ℕ → Type 0) → (ℕ → Bool) → Type 0
Holds bs Seen old = (x : ℕ) → Decides (old x) ((q : ℕ) × Seen q × (byte bs q ≡ x))

holds_more : (bs : List ℕ) (Seen : ℕ → Type 0) (old : ℕ → Bool) (i : ℕ) → Holds bs Seen old → Holds bs (λ q. Seen q ⊎ (q ≡ i)) (λ x. old x || eqb x (byte bs i))
holds_more bs Seen old i holds x = Decides-like _ (λ h. grind arith) (λ h. grind arith) (Decides-or _ _ (holds x) (Decides-eqb x (byte bs i)))

decides_bad : (bs : List ℕ) (Seen : ℕ → Type 0) (old : ℕ → Bool) (i : ℕ) → Holds bs Seen old →
    Decides (not (ltb (byte bs i) deck) || old (byte bs i)) (Bad bs Seen i i)
decides_bad bs Seen old i holds =
    Decides-or _ _
    (Decides-like _ (λ h. omega arith) (λ h l. omega arith) (Decides-not _ (Decides-ltb (byte bs i) deck)))
    (Decides-like _ (λ h. (h.0, inl h.1, h.2)) (λ h. (h.0, elim h.1 [ inl s ↦ s | inr s ↦ absurd (omega arith) ], h.2)) (holds (byte bs i)))

finds_bad : (bs : List ℕ) (Seen : ℕ → Type 0) (old : ℕ → Bool) (i n : ℕ) → Holds bs Seen old →
    Finds (λ p. Among bs i n p × Bad bs Seen i p) (first_bad old i (take n (drop i bs)))
unfolding first_bad
finds_bad bs Seen old i zero holds = finds_nothing (λ p h. omega arith)
finds_bad bs Seen old i (suc n) holds = elim (cases_lt i (length bs)) [
  | inl l ↦
      rw (drop-cons bs i 0 l)
      (finds_same (λ p h. grind arith) (λ p h. grind (arith, cases_eq p i))
      (finds_pick _ i _ (λ p q h g. omega arith)
      (finds_fault _ i (decides_bad bs Seen old i holds)) (finds_bad bs (λ q. Seen q ⊎ (q ≡ i)) _ (suc i) n (holds_more bs Seen old i holds))))
  | inr l ↦ rw (drop_all i bs l) (finds_nothing (λ p h. omega arith))
]

-- the card at p is none, or stands at an earlier place too
abbrev Wrong : List ℕ → ℕ → Type 0
Wrong bs p = (deck ≤ byte bs p) ⊎ ((q : ℕ) × (q < p) × CardPlace bs q × (byte bs q ≡ byte bs p))

finds_trick : (bs : List ℕ) → Finds (λ p. TrickCard bs p × Wrong bs p) (first_bad (has []) 3 (trick_of bs))
unfolding has start_of
finds_trick bs =
    finds_same (λ p h. grind arith) (λ p h. grind (arith, start_mono bs 0))
    (finds_bad bs (λ q. ⊥) (λ x. false) 3 (byte bs 2) (λ x. (λ e. absurd (false≢true e), λ h. absurd h.1)))

finds_hand : (bs : List ℕ) (k : ℕ) → k < 4 → Finds (λ p. HandCard bs k p × Wrong bs p) (hand_fault bs k)
unfolding start_of
finds_hand bs k l =
    finds_same
    (λ p h. (
      (omega arith, h.0.1, h.0.2),
      elim h.1 [
        | inl d ↦ inl d
        | inr a ↦ elim a.1 [
          | inl s ↦ inr (a.0, sooner a.0 p s h.0.0, placed a.0 s, a.2)
          | inr s ↦ inr (a.0, s.1, inr (k, l, (omega arith, omega arith, omega arith)), a.2)
        ]
      ],
    ))
    (λ p h. grind (arith, start_next bs k, start_mono bs (suc k)))
    (finds_bad bs (CardBefore bs k) (has (before bs k)) (start_of bs k + 1) (number_byte bs k) (decides_before bs k))
  where
    sooner : (q p : ℕ) → CardBefore bs k q → start_of bs k + 1 ≤ p → q < p
    sooner q p (inl t) m = omega (arith, start_mono bs 0 k (omega arith))
    sooner q p (inr c) m = omega (arith, start_mono bs (suc c.0) k (omega arith))

    placed : (q : ℕ) → CardBefore bs k q → CardPlace bs q
    placed q (inl t) = inl t
    placed q (inr c) = inr (c.0, omega arith, c.2)

pub finds_card : (n : ℕ) (bs : List ℕ) (room : Room) → Finds (Fault n bs room bad_card) (card_fault bs)
finds_card n bs room =
    finds_same
    (λ p h. grind arith) (λ p h. grind arith)
    (finds_or _ _ (λ p q t c. omega (arith, start_mono bs 0 c.0 (omega arith))) (finds_trick bs)
    (finds_first (λ k p. HandCard bs k p × Wrong bs p) (hand_fault bs) 4
    (λ j k p q l a b. omega (arith, start_mono bs (suc j) k (omega arith))) (finds_hand bs)))
