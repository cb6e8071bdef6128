-- Playing on, card by card. Assumes nothing.
use Rattle.std.proofs.Common.{◌≡◌, ℕ, suc, ◌+◌, ◌<◌, ◌≤◌, Bool, true, not, List, [], ◌∷◌, ◌++◌, length, drop, Some, None, Ok, Err, Option, sym, ap, ◌∙◌, subst, inl, inr, arith, length-append}
use Rattle.std.proofs.lemmas.Bool.{cases_Bool, cases_lt}
use Rattle.std.proofs.lemmas.List.{append-nil, append_assoc, at_drop_more, at_drop_all}
use Rattle.cards.specs.Table.{Table, pick, cards_left, Sound}
use Rattle.cards.specs.Seen.{seen}
use Rattle.cards.specs.Refusals.{number_of, place_of}
use Rattle.cards.specs.declared.refusal.Refusal.{Refusal}
use Rattle.tricks.specs.Rules.{our_turn, may, after}
use Rattle.tricks.proofs.CardsLeft.{own_cards, some_trick, one_fewer}
use Rattle.referee.specs.Row.{why}
use Rattle.referee.specs.Right.{card_at}
use Rattle.referee.specs.Parts.{Turned}
use Rattle.referee.proofs.WhyLaws.{nobody, why_right}
use Rattle.worth.specs.Positions.{Under}
use Rattle.worth.proofs.PositionLaws.{under_after}
use Rattle.claims.specs.Advice.{advice}
use Rattle.claims.specs.Judging.{own_turn}
use Rattle.claims.specs.PlayOn.{own_card, RowTurn, Runs, ends, by_advice, by_row, Halts, here, past_advice, past_row}
use Rattle.claims.specs.Nexts.{NextPlayed, NextTold}
use Rattle.claims.specs.declared.play_on.Next.{Next}
use Rattle.claims.proofs.AdviceLaws.{advice_some}
use Rattle.claims.proofs.ReplyLaws.{advice_legal}
use Rattle.claims.proofs.TurnLaws.{own_side, other_side}

-- ---- whose card comes next
module _ (side : Bool) (u : Table) where
  -- a card that is advised is the side's own
  own_advised : (c : ℕ) → own_card side u ≡ Some c → (our_turn u ≡ side) × (advice u ≡ Some c)
  own_advised c e = elim (cases_Bool (own_turn side u)) [
    | inl own ↦ (own_side side (our_turn u) own, sym (ap (λ (b : Bool). pick b (advice u) None) own) ∙ e)
    | inr own ↦ let f = ap (λ (b : Bool). pick b (advice u) None) own in let z : ◌≡◌ {A = ℕ} 0 1 = cc in absurd (omega arith)
  ]

  pub own_legal : (c : ℕ) → own_card side u ≡ Some c → may u c ≡ true
  own_legal c e = advice_legal u c (sym (own_advised c e).1)

  -- where none is, the row has to say what comes next
  row_turn : (m : ℕ) → Sound u m → own_card side u ≡ None → RowTurn side u
  row_turn m s e = elim (cases_Bool (own_turn side u)) [
    | inr own ↦ inl (other_side side (our_turn u) own)
    | inl own ↦ elim (cases_lt 0 m) [
      | inl l ↦
          let (c, a, _) = advice_some u m s l in
          let f = ap (λ (b : Bool). pick b (advice u) None) own in
          let z : ◌≡◌ {A = ℕ} 0 1 = cc in
          absurd (omega arith)
      | inr l ↦ inr (nobody u m s (omega (arith, own_cards u m s)))
    ]
  ]

  row_plays : (m c : ℕ) → Sound u m → own_card side u ≡ None → may u c ≡ true → our_turn u ≡ not side
  row_plays m c s e legal = elim (cases_Bool (own_turn side u)) [
    | inr own ↦ other_side side (our_turn u) own
    | inl own ↦
        let (d, a, _) = advice_some u m s (some_trick u m c s legal) in
        let f = ap (λ (b : Bool). pick b (advice u) None) own in
        let z : ◌≡◌ {A = ℕ} 0 1 = cc in
        absurd (omega arith)
  ]

-- ---- the cards so far
-- these cards were played from t on, i cards of the row among them; u is the table reached
pub record OnTheWay (side : Bool) (t : Table) (cs cards : List ℕ) (i : ℕ) (u : Table) : Type 0 where
  pub left : length cards + cards_left u ≡ cards_left t
  pub used : i ≤ length cs
  pub runs : (ds : List ℕ) → Runs side u (drop i cs) ds → Runs side t cs (cards ++ ds)
  pub halts : (n p : ℕ) → Halts side u (drop i cs) n p → Halts side t cs n (i + p)
  pub under : Under t u

module _ (side : Bool) (t : Table) (cs cards : List ℕ) (i : ℕ) (u : Table) (w : OnTheWay side t cs cards i u) where
  -- a card that is played finds a place
  pub way_place : (c : ℕ) → cards_left t ≤ 32 → may u c ≡ true → length cards < 32
  way_place c l m = omega (arith, w.left, one_fewer u c m)

  -- a card more leaves fewer cards
  falls : (c j : ℕ) (x : Next) → NextPlayed u c j x → cards_left (seen x.board) < cards_left u
  falls c j x p = let v : cards_left (seen x.board) ≡ cards_left (after u c) = ap cards_left p.table in omega (arith, one_fewer u c p.legal)

  -- a card more, x, finds a place, leaves fewer cards, and the play goes on
  pub record Goes_on (x : Next) : Type 0 where
    pub place : length cards < 32
    pub falls : cards_left (seen x.board) < cards_left u
    pub way : (longer : List ℕ) → longer ≡ cards ++ x.card.number ∷ [] → OnTheWay side t cs longer x.used (seen x.board)

  -- one card more, x, after which j cards of the row are used: what holds of what comes after it holds of what comes with it
  way_more : (c j : ℕ) (x : Next) → NextPlayed u c j x → j ≤ length cs →
      ((ds : List ℕ) → Runs side (after u c) (drop j cs) ds → Runs side u (drop i cs) (c ∷ ds)) →
      ((n p : ℕ) → Halts side (after u c) (drop j cs) n p → Halts side t cs n (j + p)) → (longer : List ℕ) → longer ≡ cards ++ x.card.number ∷ [] → OnTheWay side t cs longer x.used (seen x.board)
  way_more c j x p few runs halts longer more =
      let card = p.card in
      let spent = p.spent in
      record {
        left = (let v : cards_left (seen x.board) ≡ cards_left (after u c) = ap cards_left p.table in omega (arith, w.left, one_fewer u c p.legal, ap length more ∙ length-append cards (x.card.number ∷ [])));
        used = omega arith;
        runs = λ ds r.
            let r' = subst (λ (q : ℕ). Runs side (after u c) (drop q cs) ds) spent (subst (λ (v : Table). Runs side v (drop x.used cs) ds) p.table r) in
            let e : longer ++ ds ≡ cards ++ (c ∷ ds)
            = ap (λ (xs : List ℕ). xs ++ ds) more ∙ append_assoc cards (x.card.number ∷ []) ds ∙ ap (λ (y : ℕ). cards ++ (y ∷ ds)) card in
            subst (Runs side t cs) (sym e) (w.runs (c ∷ ds) (runs ds r'));
        halts = λ n q h.
            let h' = subst (λ (y : ℕ). Halts side (after u c) (drop y cs) n q) spent (subst (λ (v : Table). Halts side v (drop x.used cs) n q) p.table h) in
            subst (λ (y : ℕ). Halts side t cs n (y + q)) (sym spent) (halts n q h');
        under = under_after t u (seen x.board) c w.under p.table;
      }

  -- the card advised
  pub way_advised : (c : ℕ) (x : Next) → own_card side u ≡ Some c → NextPlayed u c i x → (longer : List ℕ) → longer ≡ cards ++ x.card.number ∷ [] → OnTheWay side t cs longer x.used (seen x.board)
  way_advised c x e p =
      let (o, a) = own_advised side u c e in
      way_more c i x p w.used (λ ds r. by_advice c o a r) (λ n q h. w.halts n q (past_advice c o a h))

  -- where none is, with m tricks left
  module _ (m : ℕ) (s : Sound u m) (e : own_card side u ≡ None) where
    -- the next card of the row
    pub way_row : (x : Next) → i < length cs → NextPlayed u (card_at cs i) (i + 1) x → (longer : List ℕ) → longer ≡ cards ++ x.card.number ∷ [] → OnTheWay side t cs longer x.used (seen x.board)
    way_row x there p =
        let c = card_at cs i in
        let o = row_plays side u m c s e p.legal in
        way_more c (i + 1) x p (omega arith)
        (λ ds r. subst (λ (xs : List ℕ). Runs side u xs (c ∷ ds)) (sym (at_drop_more (λ (xs : List ℕ). xs) cs i 0 there)) (by_row c o p.legal r))
        (λ n q h.
        let f : i + suc q ≡ (i + 1) + q = omega arith in
        subst (Halts side t cs n) f (w.halts n (suc q) (subst (λ (xs : List ℕ). Halts side u xs n (suc q)) (sym (at_drop_more (λ (xs : List ℕ). xs) cs i 0 there)) (past_row c o p.legal h))))

    -- the row's end
    pub way_ends : i ≡ length cs → Runs side t cs cards
    way_ends all =
        subst (Runs side t cs) (append-nil cards)
        (w.runs [] (subst (λ (xs : List ℕ). Runs side u xs []) (sym (at_drop_all (λ (xs : List ℕ). xs) cs i (omega arith))) (ends (row_turn side u m s e))))

    -- a card of the row that may not be played
    pub way_stops : (x : Refusal) → i < length cs → Turned u (card_at cs i) i x → Halts side t cs (number_of x) (place_of x)
    way_stops x there bad =
        let c = card_at cs i in
        let n = why u c in
        let place : i + 0 ≡ place_of x = omega (arith, bad.at) in
        subst (λ (k : ℕ). Halts side t cs k (place_of x)) (sym bad.number)
        (subst (Halts side t cs n) place
        (w.halts n 0
        (subst (λ (xs : List ℕ). Halts side u xs n 0) (sym (at_drop_more (λ (xs : List ℕ). xs) cs i 0 there)) (here c (row_turn side u m s e) bad.illegal (why_right u m s c bad.illegal)))))

  -- what was told of the next play, o being the card advised: a card, the end, or a refusal
  module _ (m : ℕ) (s : Sound u m) where
    pub way_goes : cards_left t ≤ 32 → (o : Option ℕ) → own_card side u ≡ o → (x : Next) → NextTold o u cs i (Ok (Some x)) → Goes_on x
    way_goes few None e x (there, p) =
        record { place = way_place (card_at cs i) few p.legal; falls = falls (card_at cs i) (i + 1) x p; way = way_row m s e x there p }
    way_goes few (Some c) e x p = record { place = way_place c few p.legal; falls = falls c i x p; way = way_advised c x e p }

    pub way_over : (o : Option ℕ) → own_card side u ≡ o → NextTold o u cs i (Ok None) → Runs side t cs cards
    way_over None e all = way_ends m s e all
    way_over (Some c) e all = absurd all

    pub way_refused : (o : Option ℕ) → own_card side u ≡ o → (x : Refusal) → NextTold o u cs i (Err x) → Halts side t cs (number_of x) (place_of x)
    way_refused None e x (there, bad) = way_stops m s e x there bad
    way_refused (Some c) e x bad = absurd bad
