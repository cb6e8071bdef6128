-- What the fields of a board say of its table: the cards on it, and a hand of it. Assumes nothing.
use Rattle.std.proofs.Common.{◌≡◌, ℕ, ◌+◌, ◌%◌, ◌<◌, Bool, eqb, ltb, List, [], ◌∷◌, ◌++◌, length, get_or, take, set, sym, ap, ◌∙◌, inl, inr, arith}
use Rattle.std.proofs.lemmas.Bool.{cases_eq, eq-eqb, ne_eqb}
use Rattle.std.proofs.lemmas.List.{length-map, length-take-le, map-set, get_or-set_same, get_or-set_other, take-map, take_more_set}
use Rattle.cards.specs.Table.{pick, one, deck, count, Sound}
use Rattle.cards.specs.Bits.{bit}
use Rattle.cards.specs.Hands.{bits_of, held, numbers, table_of, tricks_of}
use Rattle.cards.specs.declared.card.Card.{Card}
use Rattle.cards.specs.declared.card.Trump.{Trump}
use Rattle.cards.specs.declared.hand.Hand.{Hand}
use Rattle.cards.specs.declared.player.Player.{Player}

-- the numbers of the first cards are the first of the numbers
pub numbers_first : (n : ℕ) (cards : List Card) → numbers (take n cards) ≡ take n (numbers cards)
numbers_first n cards = sym (take-map (λ c. c.number) n cards)

-- as many cards lie on the table as were played to the trick
pub cards_on : (trick : List Card) (n : ℕ) → length trick ≡ 3 → n < 4 → length (take n (numbers trick)) ≡ n
cards_on trick n three l = length-take-le n (numbers trick) (omega (arith, length-map trick (λ c. c.number)))

-- the trick with a card more
pub trick_more : (trick : List Card) (n : ℕ) (card : Card) → n < length trick → take (n + 1) (numbers (set trick n card)) ≡ take n (numbers trick) ++ (card.number ∷ [])
trick_more trick n card l =
    ap (λ xs. take (n + 1) xs) (map-set (λ c. c.number) trick n card) ∙ take_more_set (numbers trick) n card.number (omega (arith, length-map trick (λ c. c.number)))

-- the cards on the table after one more, of which the fourth clears it
pub trick_after : (lying longer : List ℕ) (n c : ℕ) → length lying ≡ n → n < 4 → (n < 3 → take (n + 1) longer ≡ lying ++ (c ∷ [])) →
    take ((n + 1) % 4) longer ≡ pick (eqb (length lying) 3) [] (lying ++ (c ∷ []))
trick_after lying longer n c e l more = elim (cases_eq n 3) [
  | inl q ↦
      let z : (n + 1) % 4 ≡ 0 = omega arith in
      ap (λ k. take k longer) z ∙ sym (ap (λ b. pick b [] (lying ++ (c ∷ []))) (eq-eqb (length lying) 3 (e ∙ q)))
  | inr q ↦
      let s : (n + 1) % 4 ≡ n + 1 = omega arith in
      ap (λ k. take k longer) s ∙ more (omega arith) ∙ sym (ap (λ b. pick b [] (lying ++ (c ∷ []))) (ne_eqb (length lying) 3 (λ f. q (sym e ∙ f))))
]

-- the hands, with another for a player
pub hands_set : (hands : List Hand) (p : ℕ) (h : Hand) → p < length hands → (q x : ℕ) → held (set hands p h) q x ≡ pick (eqb q p) (bit h.bits x) (held hands q x)
hands_set hands p h l q x =
    ap (λ (xs : List ℕ). bit (get_or xs q 0) x) (map-set (λ (k : Hand). k.bits) hands p h)
    ∙ elim (cases_eq q p) [
      | inl e ↦
          ap (λ (r : ℕ). bit (get_or (set (bits_of hands) p h.bits) r 0) x) e
          ∙ ap (λ (y : ℕ). bit y x) (get_or-set_same (bits_of hands) p h.bits 0 (omega (arith, length-map hands (λ (k : Hand). k.bits))))
          ∙ sym (ap (λ (b : Bool). pick b (bit h.bits x) (held hands q x)) (eq-eqb q p e))
      | inr e ↦
          ap (λ (y : ℕ). bit y x) (get_or-set_other (bits_of hands) p q h.bits 0 e)
          ∙ sym (ap (λ (b : Bool). pick b (bit h.bits x) (held hands q x)) (ne_eqb q p e))
    ]

-- the tricks left by the leader's cards are those of the table
pub tricks_are : (trump : Trump) (hands : List Hand) (leader : Player) (trick : List Card) (played n : ℕ) → length trick ≡ 3 → played < 4 →
    Sound (table_of trump hands leader trick played) n → tricks_of hands leader played ≡ n
tricks_are trump hands leader trick played n three l s =
    let seat : leader.seat ≡ (leader.seat + 0) % 4 = omega (arith, leader.low) in
    ap (λ (p : ℕ). count (held hands p) deck + one (ltb 0 played)) seat
    ∙ ap (λ (k : ℕ). count (held hands ((leader.seat + 0) % 4)) deck + one (ltb 0 k)) (sym (cards_on trick played three l))
    ∙ s.have 0 (omega arith)
