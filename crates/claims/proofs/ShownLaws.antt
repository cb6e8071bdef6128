-- What a judgement shows, over whole plays. Assumes nothing.
use Rattle.std.proofs.Common.{◌≡◌, ℕ, zero, suc, ◌-◌, ◌<◌, Bool, true, false, not, eqb, List, [], ◌∷◌, ◌++◌, length, Some, None, Option, sym, refl, ap, ◌∙◌, subst, inl, inr, arith}
use Rattle.std.proofs.lemmas.Bool.{both_ways, and_left, cases_Bool, cases_lt}
use Rattle.cards.specs.Table.{Table, pick, deck, Sound}
use Rattle.tricks.specs.Rules.{our_turn, may, after}
use Rattle.tricks.specs.Statements.{left_after}
use Rattle.tricks.proofs.Stays.{keeps_sound}
use Rattle.worth.specs.Value.{worth_of}
use Rattle.tricks.proofs.CardsLeft.{some_trick}
use Rattle.claims.specs.Claims.{upheld}
use Rattle.claims.specs.Advice.{advice}
use Rattle.claims.specs.Failing.{fails, failing, takes_by}
use Rattle.claims.specs.Judging.{own_turn, next_failing, reply_to, Answered, answered, replies_below, judging}
use Rattle.claims.specs.Shown.{Refutes, Refuted, at_once, by_lead, NextRefuted, Replied, EachReplied, Shows}
use Rattle.claims.proofs.LowestLaws.{lowest_is, lowest_empty}
use Rattle.claims.proofs.CardLaws.{kept}
use Rattle.claims.proofs.AdviceLaws.{advice_some, advice_none, named}
use Rattle.claims.proofs.TurnLaws.{own_side, other_side, alternates, leads_again}
use Rattle.claims.proofs.FailLaws.{refused_by_card, refused_stays, upheld_rest, fails_is}
use Rattle.claims.proofs.ReplyLaws.{next_here, next_led}
use Rattle.claims.proofs.JudgeLaws.{judged_upheld, judged_replies, judged_fails}

-- ---- a card against a claim
module _ (side : Bool) (n k : ℕ) (t : Table) (s : Sound t n) where
  -- the lowest card by which a claim fails refutes it
  refutes : (c : ℕ) → our_turn t ≡ not side → failing side n k t ≡ Some c → Refutes side n k t c
  refutes c o e =
      let low = lowest_is (fails side n k t) deck c e in
      record { others = o; fails = (fails_is t n s side k c).0 low.passes; lowest = λ d l f. both_ways _ (low.before d l) ((fails_is t n s side k d).1 f) }

  -- with no trick left there is none
  none_fails : n ≡ 0 → failing side n k t ≡ None
  none_fails z = lowest_empty (fails side n k t) deck (λ c. elim (cases_Bool (may t c)) [ inl m ↦ absurd (omega (arith, some_trick t n c s m)) | inr m ↦ and_left _ _ m ])

  -- what is not upheld is refuted at the other side's turn
  refuted : our_turn t ≡ not side → upheld side n k (worth_of t) ≡ false → Refuted side n k t (failing side n k t)
  refuted o e = elim (cases_lt 0 n) [
    | inl l ↦ let (c, f, _, _) = refused_by_card t n s l side k o e in subst (Refuted side n k t) (sym f) (refutes c o f)
    | inr l ↦ let z : n ≡ 0 = omega arith in subst (Refuted side n k t) (sym (none_fails z)) z
  ]

-- ---- the other side's next turn
module _ (side : Bool) (n k : ℕ) (t : Table) (s : Sound t n) (e : upheld side n k (worth_of t) ≡ false) where
  here : our_turn t ≡ not side → (o : Option ℕ) → o ≡ failing side n k t → NextRefuted side n k t o
  here turn None f = subst (Refuted side n k t) (sym f) (refuted side n k t s turn e)
  here turn (Some c) f = (n, k, t, at_once, refutes side n k t s c turn (sym f))

  -- after the lead that is advised
  led : 0 < n → our_turn t ≡ side → t.trick ≡ [] → own_turn side t ≡ true → NextRefuted side n k t (next_failing side n k t)
  led l turn empty own =
      let (c, f, low) = advice_some t n s l in
      let m = (kept t c low.passes).0 in
      let u = after t c in
      let goes_on : eqb (length t.trick) 3 ≡ false = ap (λ (xs : List ℕ). eqb (length xs) 3) empty in
      let same : left_after t n ≡ n = ap (λ (b : Bool). pick b (n - 1) n) goes_on in
      let sound = keeps_sound t n c s m in
      let j = k - takes_by side t c in
      let others : our_turn u ≡ not side = alternates t c goes_on ∙ ap not turn in
      let refused = upheld_rest t n s side k c m ∙ refused_stays t n s side k turn e c m in
      let (d, g, _, _) = refused_by_card u (left_after t n) sound (omega arith) side j others refused in
      subst (NextRefuted side n k t) (sym (next_led side n k t (Some c) own (sym f) ∙ g))
      (left_after t n, j, u, by_lead c turn empty f, refutes side (left_after t n) j u sound d others g)

  next_refuted : (our_turn t ≡ side → t.trick ≡ []) → NextRefuted side n k t (next_failing side n k t)
  next_refuted empty = elim (cases_Bool (own_turn side t)) [
    | inr own ↦ here (other_side side (our_turn t) own) (next_failing side n k t) (next_here side n k t own)
    | inl own ↦
        let turn = own_side side (our_turn t) own in
        elim (cases_lt 0 n) [
          | inl l ↦ led l turn (empty turn) own
          | inr l ↦
              let z : n ≡ 0 = omega arith in
              subst (NextRefuted side n k t) (sym (next_led side n k t None own (sym (advice_none t (subst (Sound t) z s))))) z
        ]
  ]

-- ---- the replies to the cards of the side
module _ (side : Bool) (n k : ℕ) (t : Table) (s : Sound t n) (e : upheld side n k (worth_of t) ≡ false) (turn : our_turn t ≡ side) where
  replied : (c : ℕ) → may t c ≡ true → Replied side n k t c (reply_to side n k t c)
  replied c m =
      next_refuted side (left_after t n) (k - takes_by side t c) (after t c) (keeps_sound t n c s m)
      (upheld_rest t n s side k c m ∙ refused_stays t n s side k turn e c m) (leads_again t c side turn)

  each_more : (rs : List Answered) (c : ℕ) → may t c ≡ true → EachReplied side n k t rs → EachReplied side n k t (rs ++ (answered side n k t c ∷ []))
  each_more [] c m h = (m, replied c m, tt)
  each_more (a ∷ rs) c m (b, g, h) = (b, g, each_more rs c m h)

  each : (i : ℕ) → EachReplied side n k t (replies_below side n k t i)
  unfolding replies_below
  each zero = tt
  each (suc i) = elim (cases_Bool (may t i)) [
    | inl m ↦ subst (λ (b : Bool). EachReplied side n k t (pick b (replies_below side n k t i ++ (answered side n k t i ∷ [])) (replies_below side n k t i))) (sym m) (each_more (replies_below side n k t i) i m (each i))
    | inr m ↦ subst (λ (b : Bool). EachReplied side n k t (pick b (replies_below side n k t i ++ (answered side n k t i ∷ [])) (replies_below side n k t i))) (sym m) (each i)
  ]

pub judging_shows : (t : Table) (n : ℕ) → Sound t n → (side : Bool) (k : ℕ) → Shows side n k t (judging side n k t)
judging_shows t n s side k = elim (cases_Bool (upheld side n k (worth_of t))) [
  | inl e ↦ subst (Shows side n k t) (judged_upheld side n k t n (worth_of t) refl refl (advice t) e refl) (named t n s (advice t) refl)
  | inr e ↦ elim (cases_Bool (own_turn side t)) [
    | inl own ↦
        let turn = own_side side (our_turn t) own in
        subst (Shows side n k t) (judged_replies side n k t n (worth_of t) refl refl (replies_below side n k t deck) e own refl) (turn, each side n k t s e turn deck)
    | inr own ↦
        subst (Shows side n k t) (judged_fails side n k t n (worth_of t) refl refl (failing side n k t) e own refl)
        (refuted side n k t s (other_side side (our_turn t) own) e)
  ]
]
