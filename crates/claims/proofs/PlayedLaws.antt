-- Who plays by the advice to the end gets the worth. Assumes nothing.
use Rattle.std.proofs.Common.{◌≡◌, ℕ, ◌+◌, ◌%◌, Bool, true, not, eqb, [], ◌∷◌, length, sym, refl, ap, ◌∙◌, subst, inl, inr, arith, length-append}
use Rattle.std.proofs.lemmas.Bool.{and_parts, cases_lt}
use Rattle.cards.specs.Table.{Table, deck, Sound}
use Rattle.cards.proofs.CountLaws.{count_pos}
use Rattle.tricks.specs.Rules.{turn, our_turn, may, after, gains}
use Rattle.tricks.proofs.MayLaws.{may_parts}
use Rattle.worth.specs.Value.{worth_of}
use Rattle.tricks.proofs.CardsLeft.{cards_are, no_trick}
use Rattle.worth.proofs.ValueLaws.{worth_low, worth_is}
use Rattle.claims.specs.Advice.{Advises, Played, over, by_advice, by_other, Pays, AdvicePays}
use Rattle.claims.specs.Line.{Line, start, then_advice, then_other}
use Rattle.claims.proofs.TurnLaws.{one_side, alternates}
use Rattle.claims.proofs.LineLaws.{never_below}

-- with no trick left nothing lies on the table, so no card gains
module _ (t : Table) (c : ℕ) (s : Sound t 0) where
  empty_trick : length t.trick ≡ 0
  empty_trick = omega (arith, cards_are t 0 s)

  gains_none : gains t c ≡ 0
  unfolding gains
  gains_none = let e = empty_trick in grind arith

  next_turn : turn (after t c) ≡ (t.leader + 1) % 4
  unfolding after
  next_turn = let e = empty_trick in let f = length-append t.trick (c ∷ []) in grind arith

  -- after a card that nobody has the other side is to play, and has none
  other_turn : our_turn (after t c) ≡ not (our_turn t)
  other_turn = alternates t c (ap (λ (l : ℕ). eqb l 3) empty_trick)

  none_may : (d : ℕ) → may (after t c) d ≡ true → ⊥
  unfolding after
  none_may d m =
      let p = may_parts (after t c) d m in
      let there : t.hand (turn (after t c)) d ≡ true = (and_parts _ _ p.owned).0 in
      let held = subst (λ (q : ℕ). t.hand q d ≡ true) next_turn there in
      omega (arith, s.have 1 (omega arith), count_pos (t.hand ((t.leader + 1) % 4)) d deck p.card held)

-- where the other side is to play and has no card, a play is over
no_play : (side : Bool) (adv : Table → ℕ) (u : Table) (g : ℕ) → ((d : ℕ) → may u d ≡ true → ⊥) → our_turn u ≡ not side → Played side adv u g → g ≡ 0
no_play side adv u _ f o (over e) = refl
no_play side adv u _ f o (by_advice p q) = absurd (one_side side (sym p ∙ o))
no_play side adv u _ f o (by_other c p m q) = absurd (f c m)

-- with no trick left a play brings none, whatever the advice
none_more : (side : Bool) (adv : Table → ℕ) (t : Table) (c g : ℕ) → Sound t 0 → our_turn t ≡ side → Played side adv (after t c) g → gains t c + g ≡ 0
none_more side adv t c g s o p = omega (arith, gains_none t c s, no_play side adv (after t c) g (none_may t c s) (other_turn t c s ∙ ap not o) p)

module _ (side : Bool) (adv : Table → ℕ) (t : Table) (n : ℕ) (good : Advises side adv) (s : Sound t n) where
  -- a line that is played on to the end
  played_on : {u : Table} {g h : ℕ} → Line side adv t u g → Played side adv u h → Pays side (worth_of t) (g + h)
  played_on {u = u} {g = g} r (over f) =
      let (m, b, p) = never_below side adv t u n g good s r in
      let e : worth_of u ≡ 0 = omega (arith, worth_low u m b, no_trick u m b f) in
      subst (λ (x : ℕ). Pays side (worth_of t) (g + x)) e p
  played_on {g = g} r (by_advice {t = u} {g = h} o q) =
      let (m, b, p) = never_below side adv t u n g good s r in
      elim (cases_lt 0 m) [
        | inl l ↦
            let e : (g + gains u (adv u)) + h ≡ g + (gains u (adv u) + h) = omega arith in
            subst (Pays side (worth_of t)) e (played_on (then_advice r o (good.legal u m b o l)) q)
        | inr l ↦
            let none_left : m ≡ 0 = omega arith in
            let e : worth_of u ≡ gains u (adv u) + h = omega (arith, worth_low u m b, none_more side adv u (adv u) h (subst (Sound u) none_left b) o q) in
            subst (λ (x : ℕ). Pays side (worth_of t) (g + x)) e p
      ]
  played_on {g = g} r (by_other {t = u} {g = h} c o m q) =
      let e : (g + gains u c) + h ≡ g + (gains u c + h) = omega arith in
      subst (Pays side (worth_of t)) e (played_on (then_other c r o m) q)

pub advice_pays : AdvicePays
advice_pays side adv t n v g good s w p =
    let e : 0 + g ≡ g = omega arith in
    subst (λ (x : ℕ). Pays side x g) (sym (worth_is t n v s w)) (subst (Pays side (worth_of t)) e (played_on side adv t n good s start p))
