-- What comes about where one side goes by advice and the other plays a row: only one thing does, and the side is never worse off. Assumes nothing.
use Rattle.std.proofs.Common.{◌≡◌, ℕ, zero, suc, ◌+◌, ◌<◌, ◌≤◌, Bool, true, not, ◌⊎◌, List, ◌∷◌, length, Some, sym, refl, ap, ◌∙◌, subst, ap₂, inl, inr, arith}
use Rattle.std.proofs.lemmas.Bool.{both_ways}
use Rattle.cards.specs.Table.{Table, cards_left, Sound}
use Rattle.tricks.specs.Rules.{turn, our_turn, may, after, gains}
use Rattle.tricks.specs.Plays.{Worth}
use Rattle.tricks.proofs.MayLaws.{may_parts}
use Rattle.referee.specs.Right.{card_at, table_at, AllFit, Nobody}
use Rattle.referee.proofs.WhyLaws.{why_one}
use Rattle.referee.proofs.RowRight.{table_later, table_first}
use Rattle.worth.specs.Value.{worth_of}
use Rattle.worth.proofs.ValueLaws.{worth_is, worth_none}
use Rattle.claims.specs.Advice.{advice, or_zero, advised, Pays}
use Rattle.claims.specs.Line.{Line, start, then_advice, then_other}
use Rattle.claims.specs.PlayOn.{RowTurn, Runs, ends, by_advice, by_row, Halts, here, past_advice, past_row, OneCourse, won}
use Rattle.claims.proofs.AdviceLaws.{advice_exists}
use Rattle.claims.proofs.LineLaws.{never_below}
use Rattle.claims.proofs.ReplyLaws.{advice_legal}
use Rattle.claims.proofs.TurnLaws.{one_side}

-- ---- only one thing comes of a row
module _ (side : Bool) where
  -- a card that may be played is held
  nobody_plays : (t : Table) (c : ℕ) → may t c ≡ true → Nobody t → ⊥
  nobody_plays t c m none = both_ways _ (none (turn t) c (omega arith)) (may_parts t c m).owned

  -- where a card is advised to the side, the row has nothing to say
  no_row_turn : (t : Table) (c : ℕ) → our_turn t ≡ side → advice t ≡ Some c → RowTurn side t → ⊥
  no_row_turn t c o a (inl r) = one_side side (sym o ∙ r)
  no_row_turn t c o a (inr none) = nobody_plays t c (advice_legal t c (sym a)) none

  -- the card advised is one
  same_advice : (t : Table) (c d : ℕ) → advice t ≡ Some c → advice t ≡ Some d → c ≡ d
  same_advice t c d a b = ap or_zero (sym a ∙ b)

  same_cards : {t : Table} {cs ds es : List ℕ} → Runs side t cs ds → Runs side t cs es → ds ≡ es
  same_cards (ends r) (ends q) = refl
  same_cards {t = t} (ends r) (by_advice c o a h) = absurd (no_row_turn t c o a r)
  same_cards {t = t} (by_advice c o a h) (ends r) = absurd (no_row_turn t c o a r)
  same_cards {t = t} {cs = cs} (by_advice c o a h) (by_advice {ds = es} d p b k) =
      let e = same_advice t c d a b in
      ap₂ (λ (x : ℕ) (xs : List ℕ). x ∷ xs) e (same_cards h (subst (λ (x : ℕ). Runs side (after t x) cs es) (sym e) k))
  same_cards (by_advice c o a h) (by_row d p m k) = absurd (one_side side (sym o ∙ p))
  same_cards (by_row c o m h) (by_advice d p a k) = absurd (one_side side (sym p ∙ o))
  same_cards (by_row c o m h) (by_row d p l k) = ap (λ (xs : List ℕ). c ∷ xs) (same_cards h k)

  not_both : {t : Table} {cs ds : List ℕ} {n p : ℕ} → Runs side t cs ds → Halts side t cs n p → ⊥
  not_both {t = t} (ends r) (past_advice c o a h) = no_row_turn t c o a r
  not_both {t = t} (by_advice c o a h) (here d r m w) = no_row_turn t c o a r
  not_both {t = t} {cs = cs} {n = n} {p = p} (by_advice c o a h) (past_advice d q b k) =
      not_both h (subst (λ (x : ℕ). Halts side (after t x) cs n p) (sym (same_advice t c d a b)) k)
  not_both (by_advice c o a h) (past_row d q m k) = one_side side (sym o ∙ q)
  not_both (by_row c o m h) (here d r l w) = both_ways _ l m
  not_both (by_row c o m h) (past_advice d q a k) = one_side side (sym q ∙ o)
  not_both (by_row c o m h) (past_row d q l k) = not_both h k

  same_refusal : {t : Table} {cs : List ℕ} {n m p q : ℕ} → Halts side t cs n p → Halts side t cs m q → (n ≡ m) × (p ≡ q)
  same_refusal {t = t} (here c r l w) (here d s k v) = (why_one t c w v, refl)
  same_refusal {t = t} (here c r l w) (past_advice d o a k) = absurd (no_row_turn t d o a r)
  same_refusal (here c r l w) (past_row d o m k) = absurd (both_ways _ l m)
  same_refusal {t = t} (past_advice c o a h) (here d r l w) = absurd (no_row_turn t c o a r)
  same_refusal {t = t} {cs = cs} {m = m} {q = q} (past_advice c o a h) (past_advice d p b k) =
      same_refusal h (subst (λ (x : ℕ). Halts side (after t x) cs m q) (sym (same_advice t c d a b)) k)
  same_refusal (past_advice c o a h) (past_row d p m k) = absurd (one_side side (sym o ∙ p))
  same_refusal (past_row c o m h) (here d r l w) = absurd (both_ways _ l m)
  same_refusal (past_row c o m h) (past_advice d p a k) = absurd (one_side side (sym p ∙ o))
  same_refusal (past_row c o m h) (past_row d p l k) = let (x, y) = same_refusal h k in (x, ap suc y)

pub one_course : OneCourse
one_course side t cs = record {
  same_cards = λ ds es. same_cards side;
  same_refusal = λ n m p q. same_refusal side;
  not_both = λ ds n p. not_both side;
}

-- ---- the cards that come about, one by one
-- card c of table u is one that may be played: the side's by advice, or the other side's
record Turn (side : Bool) (u : Table) (c : ℕ) : Type 0 where
  legal : may u c ≡ true
  whose : ((our_turn u ≡ side) × (advice u ≡ Some c)) ⊎ (our_turn u ≡ not side)

module _ (side : Bool) where
  -- the first card, and those after it
  at_first : (t : Table) (ds : List ℕ) (c : ℕ) → Turn side t c → Turn side (table_at t (c ∷ ds) 0) c
  at_first t ds c first = subst (λ (u : Table). Turn side u c) (sym (table_first t (c ∷ ds))) first

  at_later : (t : Table) (ds : List ℕ) (c k : ℕ) → Turn side (table_at (after t c) ds k) (card_at ds k) → Turn side (table_at t (c ∷ ds) (suc k)) (card_at ds k)
  at_later t ds c k later = subst (λ (u : Table). Turn side u (card_at ds k)) (table_later t c ds k) later

  each_turn : {t : Table} {cs ds : List ℕ} → Runs side t cs ds → (k : ℕ) → k < length ds → Turn side (table_at t ds k) (card_at ds k)
  each_turn (ends r) k l = absurd (omega arith)
  each_turn {t = t} (by_advice {ds = ds} c o a h) zero l = at_first t ds c (record { legal = advice_legal t c (sym a); whose = inl (o, a) })
  each_turn {t = t} (by_advice {ds = ds} c o a h) (suc k) l = at_later t ds c k (each_turn h k (omega arith))
  each_turn {t = t} (by_row {ds = ds} c o m h) zero l = at_first t ds c (record { legal = m; whose = inr o })
  each_turn {t = t} (by_row {ds = ds} c o m h) (suc k) l = at_later t ds c k (each_turn h k (omega arith))

  pub all_fit : {t : Table} {cs ds : List ℕ} → Runs side t cs ds → AllFit t ds
  all_fit r k l = (each_turn r k l).legal

  -- so the first k of them are a line of play by advice
  line_at : (t : Table) (ds : List ℕ) → ((k : ℕ) → k < length ds → Turn side (table_at t ds k) (card_at ds k)) → (k : ℕ) → k ≤ length ds → Line side advised t (table_at t ds k) (won t ds k)
  unfolding table_at won
  line_at t ds each zero l = start
  line_at t ds each (suc k) l =
      let u = table_at t ds k in
      let so_far = line_at t ds each k (omega arith) in
      let turn = each k (omega arith) in
      elim turn.whose [
        | inl (o, a) ↦
            let e : advised u ≡ card_at ds k = ap or_zero a in
            subst (λ (c : ℕ). Line side advised t (after u c) (won t ds k + gains u c)) e (then_advice so_far o (subst (λ (c : ℕ). may u c ≡ true) (sym e) turn.legal))
        | inr o ↦ then_other (card_at ds k) so_far o turn.legal
      ]

-- ---- the side is never worse off than at the start, and at the end it has the worth
module _ (side : Bool) (t : Table) (n : ℕ) (s : Sound t n) (cs ds : List ℕ) (r : Runs side t cs ds) where
  so_far : (k : ℕ) → k ≤ length ds → (m : ℕ) × Sound (table_at t ds k) m × Pays side (worth_of t) (won t ds k + worth_of (table_at t ds k))
  so_far k l = never_below side advised t (table_at t ds k) n (won t ds k) (advice_exists side) s (line_at side t ds (each_turn side r) k l)

  pub course_never_below : (k : ℕ) → k ≤ length ds → (v w : ℕ) → Worth t v → Worth (table_at t ds k) w → Pays side v (won t ds k + w)
  course_never_below k l v w at_start now-worth =
      let (m, sound, pays) = so_far k l in
      subst (λ (x : ℕ). Pays side x (won t ds k + w)) (sym (worth_is t n v s at_start))
      (subst (λ (x : ℕ). Pays side (worth_of t) (won t ds k + x)) (sym (worth_is (table_at t ds k) m w sound now-worth)) pays)

  pub course_gets : cards_left (table_at t ds (length ds)) ≡ 0 → (v : ℕ) → Worth t v → Pays side v (won t ds (length ds))
  course_gets over v at_start =
      let u = table_at t ds (length ds) in
      let (m, sound, pays) = so_far (length ds) (omega arith) in
      let e : won t ds (length ds) + worth_of u ≡ won t ds (length ds) = omega (arith, worth_none u over) in
      subst (λ (x : ℕ). Pays side x (won t ds (length ds))) (sym (worth_is t n v s at_start)) (subst (Pays side (worth_of t)) e pays)
