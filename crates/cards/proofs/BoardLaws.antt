-- The board that the reader makes of a deal stands for the table that the deal says. Assumes nothing.
use Rattle.std.proofs.Common.{◌≡◌, ℕ, zero, suc, ◌+◌, ◌%◌, ◌<◌, ◌≤◌, Bool, false, ◌&&◌, ltb, List, length, get_or, take, drop, None, Option, sym, refl, ap, ◌∙◌, ap₂, inl, inr, arith}
use mathlib.Core.Path.{fun_ext}
use Rattle.std.proofs.lemmas.List.{length-map, length-take-le, get_or-take, get_or_past, ext_get_or}
use Rattle.std.proofs.lemmas.Bool.{lt-ltb, le-ltb, cases_lt}
use Rattle.cards.specs.Table.{one, deck, count, InOrder}
use Rattle.cards.specs.Bits.{bit}
use Rattle.cards.specs.Numbers.{trump_number}
use Rattle.cards.specs.Hands.{bits_of, held, numbers, table_of, tricks_of, Kept}
use Rattle.cards.specs.Deal.{byte, start_of, trick_of, cards_of, has, or_else, first, fault, first_bad, hand_fault, card_fault, share, share_fault, against, revokes, suit_fault, table_in}
use Rattle.cards.specs.Parts.{Dealt}
use Rattle.cards.specs.declared.card.Card.{Card}
use Rattle.cards.specs.declared.card.Trump.{Trump}
use Rattle.cards.specs.declared.hand.Hand.{Hand}
use Rattle.cards.specs.declared.player.Player.{Player}
use Rattle.cards.proofs.BitLaws.{bit_zero}
use Rattle.cards.proofs.DealOrder.{trick_long, trick_at, trick_low, deal_in_order}

-- the check of the cards, with that of the trick by the cards and the set of no cards that the code begins with
pub cards_check : (bs cs : List ℕ) (empty played : ℕ) → cs ≡ take played (drop 3 bs) → ((x : ℕ) → bit empty x ≡ false) → played ≡ byte bs 2 →
    card_fault bs ≡ or_else (first_bad (bit empty) 3 cs) (first (hand_fault bs) 4)
unfolding has
cards_check bs cs empty played are none e = rw (are, e) (ap (λ (s : ℕ → Bool). or_else (first_bad s 3 (trick_of bs)) (first (hand_fault bs) 4)) (sym (fun_ext none)))

first_same : (f g : ℕ → Option ℕ) (n : ℕ) → ((i : ℕ) → i < n → f i ≡ g i) → first f n ≡ first g n
unfolding first
first_same f g zero e = refl
first_same f g (suc n) e = ap₂ or_else (first_same f g n (λ i l. e i (omega arith))) (e n (omega arith))

-- what was read: the numbers at the deal's head, the hands, and the cards in the places of the trick
pub record Read (bs : List ℕ) (trump : Trump) (hands : List Hand) (leader : Player) (trick : List Card) (played : ℕ) : Type 0 where
  pub few : played ≤ 3
  pub whole : start_of bs 4 ≤ length bs
  pub trumps : trump_number trump ≡ byte bs 0
  pub leads : leader.seat ≡ byte bs 1
  pub many : played ≡ byte bs 2
  pub dealt : (taken : ℕ) × Dealt bs 4 (bits_of hands) taken
  pub cards : card_fault bs ≡ None
  pub three : length trick ≡ 3
  pub lying : (i : ℕ) → i < 3 → byte bs (3 + i) < deck → get_or (numbers trick) i 0 ≡ byte bs (3 + i)

module _ (bs : List ℕ) (trump : Trump) (hands : List Hand) (leader : Player) (trick : List Card) (played : ℕ) (read : Read bs trump hands leader trick played) where
  three_at_most : byte bs 2 ≤ 3
  three_at_most = omega (arith, read.few, read.many)

  lies : (i : ℕ) → i < byte bs 2 → get_or (numbers trick) i 0 ≡ byte bs (3 + i)
  lies i l = read.lying i (omega (arith, three_at_most)) (trick_low bs read.cards three_at_most read.whole i l)

  trick_is : take played (numbers trick) ≡ trick_of bs
  trick_is =
      let n : length (numbers trick) ≡ 3 = length-map trick (λ c. c.number) ∙ read.three in
      let k : length (take played (numbers trick)) ≡ played = length-take-le played (numbers trick) (omega (arith, read.few)) in
      ext_get_or 0 (take played (numbers trick)) (trick_of bs) (k ∙ read.many ∙ sym (trick_long bs read.cards three_at_most read.whole))
      (λ i l.
      let m : i < byte bs 2 = omega (arith, read.many) in
      get_or-take played (numbers trick) i 0 (omega arith) ∙ lies i m ∙ trick_at bs read.cards three_at_most read.whole i m)

  pub hands_four : length hands ≡ 4
  hands_four = sym (length-map hands (λ h. h.bits)) ∙ read.dealt.1.four

  hand_is : (p x : ℕ) → held hands p x ≡ (ltb p 4 && has (cards_of bs p) x)
  hand_is p x = elim (cases_lt p 4) [
    | inl l ↦ rw (lt-ltb p 4 l) (read.dealt.1.each p l x)
    | inr l ↦ rw (le-ltb p 4 l, get_or_past (bits_of hands) p 0 (omega (arith, read.dealt.1.four))) (bit_zero x)
  ]

  pub table_is : table_of trump hands leader trick played ≡ table_in bs
  table_is = λ i. record { trump = read.trumps i; hand = λ p x. hand_is p x i; leader = read.leads i; trick = trick_is i }

  -- the check of the suits, by what the code has read
  pub suits_same : suit_fault bs ≡ first (λ i. fault (against (numbers trick) (held hands) leader.seat i) (3 + i)) played
  suits_same =
      first_same (λ i. fault (revokes bs i) (3 + i)) (λ i. fault (against (numbers trick) (held hands) leader.seat i) (3 + i)) (byte bs 2)
      (λ i l.
      let p : ℕ = (byte bs 1 + i) % 4 in
      let own : has (cards_of bs p) ≡ held hands ((leader.seat + i) % 4) =
      fun_ext (λ x. sym (read.dealt.1.each p (omega arith) x)) ∙ ap (λ (s : ℕ). held hands ((s + i) % 4)) (sym read.leads) in
      rw (lies i l, lies 0 (omega arith), own) refl)
      ∙ ap (first (λ i. fault (against (numbers trick) (held hands) leader.seat i) (3 + i))) (sym read.many)

  pub kept : share_fault bs ≡ None → suit_fault bs ≡ None → Kept trump hands leader trick played
  kept shares suits =
      let o = deal_in_order bs read.cards three_at_most read.whole (bits_of hands) read.dealt.0 (omega (arith, read.leads, leader.low)) read.dealt.1 shares suits in
      let t : InOrder (table_of trump hands leader trick played) (share bs (byte bs 1)) = rw table_is o in
      let h = t.sound.have 0 (omega arith) in
      let k : length (take played (numbers trick)) ≡ played = length-take-le played (numbers trick) (omega (arith, length-map trick (λ c. c.number), read.three, read.few)) in
      let seat : (leader.seat + 0) % 4 ≡ leader.seat = omega (arith, leader.low) in
      let n : tricks_of hands leader played ≡ share bs (byte bs 1) =
      ap₂ (λ (p m : ℕ). count (held hands p) deck + one (ltb 0 m)) (sym seat) (sym k) ∙ h in
      ∣ rw n t ∣₁
