-- A deal that passes the checks says a table in order. Assumes nothing.
use Rattle.std.proofs.Common.{◌≡◌, ℕ, suc, ◌+◌, ◌-◌, ◌%◌, ◌<◌, ◌≤◌, Bool, true, false, ◌&&◌, ltb, List, length, get_or, None, sym, refl, ap, ◌∙◌, subst, ap₂, inl, inr, arith}
use mathlib.Core.Path.{fun_ext}
use Rattle.std.proofs.lemmas.List.{get_or_default}
use Rattle.std.proofs.lemmas.Bool.{lt-ltb, ltb-true, and_parts, false_from_ne_true}
use Rattle.std.proofs.lemmas.Bool.Decides.{nat_tests}
use Rattle.cards.specs.Table.{one, deck, suit, has_suit, most_tricks, count, Sound, InOrder}
use Rattle.cards.specs.Bits.{bit}
use Rattle.cards.specs.Deal.{byte, start_of, number_byte, trick_of, cards_of, has, fault, card_fault, share, uneven, share_fault, revokes, suit_fault, table_in}
use Rattle.cards.specs.Faults.{TrickCard, HandCard, CardPlace}
use Rattle.cards.specs.Parts.{Dealt}
use Rattle.cards.specs.declared.room.Room.{Room}
use Rattle.cards.proofs.CountLaws.{count_same}
use Rattle.cards.proofs.DealLaws.{start_mono, part_length, part_at, first_clean}
use Rattle.cards.proofs.Standing.{decides_cards}
use Rattle.cards.proofs.CardFaults.{finds_card}

no_fault : (b : Bool) (p : ℕ) → fault b p ≡ None → b ≡ false
no_fault true p e = absurd (cc)
no_fault false p e = refl

even_parts : (own each : ℕ) → uneven own each ≡ false → (own ≡ each) × (own ≤ most_tricks)
even_parts own each e = (grind (arith, nat_tests), grind (arith, nat_tests))

-- any room will do, where a check does not look at it
some_room : Room
some_room = record { cards = 0; plays = 0; positions = 0; worths = 0 }

module _ (bs : List ℕ) (cards : card_fault bs ≡ None) where
  good_card : (p : ℕ) → CardPlace bs p → byte bs p < deck
  good_card p h = grind (arith, (finds_card 0 bs some_room).none cards p)

  -- the same card does not stand in two places
  once_only : (q p : ℕ) → CardPlace bs q → CardPlace bs p → q < p → byte bs q ≡ byte bs p → ⊥
  once_only q p hq hp l e = (finds_card 0 bs some_room).none cards p (hp, inr (q, l, hq, e))

  module _ (few : byte bs 2 ≤ 3) (whole : start_of bs 4 ≤ length bs) where
    trick_place : (i : ℕ) → i < byte bs 2 → TrickCard bs (3 + i)
    unfolding start_of
    trick_place i l = (omega arith, omega arith, omega (arith, start_mono bs 0 4 (omega arith)))

    pub trick_long : length (trick_of bs) ≡ byte bs 2
    unfolding start_of
    trick_long = part_length bs 3 (byte bs 2) (omega (arith, start_mono bs 0 4 (omega arith)))

    pub trick_at : (i : ℕ) → i < byte bs 2 → byte bs (3 + i) ≡ get_or (trick_of bs) i 0
    trick_at i l = part_at bs 3 (byte bs 2) i l

    pub trick_low : (i : ℕ) → i < byte bs 2 → byte bs (3 + i) < deck
    trick_low i l = good_card (3 + i) (inl (trick_place i l))

    -- the card of a player, by its place
    hand_place : (p x : ℕ) → p < 4 → (ltb p 4 && has (cards_of bs p) x) ≡ true → (r : ℕ) × HandCard bs p r × (byte bs r ≡ x)
    hand_place p x l h = (decides_cards bs p x).0 (and_parts (ltb p 4) (has (cards_of bs p) x) h).1

    hands_apart : (p q x : ℕ) → p < q → q < 4 → (ltb p 4 && has (cards_of bs p) x) ≡ true → (ltb q 4 && has (cards_of bs q) x) ≡ true → ⊥
    unfolding start_of
    hands_apart p q x l lq a b =
        let (r, hr, er) = hand_place p x (omega arith) a in
        let (s, hs, es) = hand_place q x lq b in
        once_only r s (inr (p, omega arith, hr)) (inr (q, lq, hs)) (omega (arith, hr.1, hs.0, start_mono bs (suc p) q (omega arith))) (er ∙ sym es)

    module _ (hands : List ℕ) (taken : ℕ) (lead : byte bs 1 ≤ 3) (dealt : Dealt bs 4 hands taken) (shares : share_fault bs ≡ None) (suits : suit_fault bs ≡ None) where
      even : (p : ℕ) → p < 4 → (share bs p ≡ share bs (byte bs 1)) × (share bs p ≤ most_tricks)
      even p l = even_parts _ _ (no_fault _ (start_of bs p) (first_clean (λ q. fault (uneven (share bs q) (share bs (byte bs 1))) (start_of bs q)) 4 p shares l))

      many : (p : ℕ) → p < 4 → count ((table_in bs).hand p) deck ≡ number_byte bs p
      many p l =
          count_same ((table_in bs).hand p) (bit (get_or hands p 0)) deck (λ x _. ap (λ (b : Bool). b && has (cards_of bs p) x) (lt-ltb p 4 l) ∙ sym (dealt.each p l x))
          ∙ dealt.many p l

      sound : Sound (table_in bs) (share bs (byte bs 1))
      sound = record {
        leads = omega arith;
        short = omega (arith, trick_long);
        once = λ p q x lp lq a b. grind (arith, hands_apart p q x, hands_apart q p x);
        cards = λ x p h.
            let l = ltb-true p 4 (and_parts (ltb p 4) (has (cards_of bs p) x) h).0 in
            let (r, hr, e) = hand_place p x l h in
            subst (λ (c : ℕ). c < deck) e (good_card r (inr (p, l, hr)));
        played = λ i d l p lp. false_from_ne_true _ (λ h.
            let k : i < byte bs 2 = omega (arith, trick_long) in
            let (r, hr, e) = hand_place p (get_or (trick_of bs) i d) lp h in
            once_only (3 + i) r (inl (trick_place i k)) (inr (p, lp, hr)) (omega (arith, hr.0, (trick_place i k).1, start_mono bs 0 p (omega arith))) (trick_at i k ∙ get_or_default (trick_of bs) i 0 d l ∙ sym e));
        have = λ i l.
            let p : ℕ = (byte bs 1 + i) % 4 in
            let seat : i ≡ ((p + 4) - byte bs 1) % 4 = omega arith in
            ap₂ (λ (n b : ℕ). n + b) (many p (omega arith)) (ap₂ (λ (j n : ℕ). one (ltb j n)) seat trick_long) ∙ (even p (omega arith)).0;
      }

      pub deal_in_order : InOrder (table_in bs) (share bs (byte bs 1))
      deal_in_order = record {
        sound = sound;
        few = (even (byte bs 1) (omega arith)).1;
        low = λ i l. let k : i < byte bs 2 = omega (arith, trick_long) in subst (λ (c : ℕ). c < deck) (trick_at i k) (trick_low i k);
        apart = λ i j l m e.
            let k : j < byte bs 2 = omega (arith, trick_long) in
            once_only (3 + i) (3 + j) (inl (trick_place i (omega arith))) (inl (trick_place j k)) (omega arith) (trick_at i (omega arith) ∙ e ∙ sym (trick_at j k));
        suited = λ i l ne.
            let k : i < byte bs 2 = omega (arith, trick_long) in
            let f : revokes bs i ≡ false = no_fault _ (3 + i) (first_clean (λ j. fault (revokes bs j) (3 + j)) (byte bs 2) i suits k) in
            let p : ℕ = (byte bs 1 + i) % 4 in
            let own : has (cards_of bs p) ≡ (table_in bs).hand p = fun_ext (λ x. sym (ap (λ (b : Bool). b && has (cards_of bs p) x) (lt-ltb p 4 (omega arith)))) in
            let z : has_suit (has (cards_of bs p)) (suit (byte bs 3)) deck ≡ false = grind (arith, nat_tests, trick_at i k, trick_at 0 (omega arith)) in
            ap₂ (λ (h : ℕ → Bool) (c : ℕ). has_suit h (suit c) deck) (sym own) (sym (trick_at 0 (omega arith))) ∙ z;
      }
