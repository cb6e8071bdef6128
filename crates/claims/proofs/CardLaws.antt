-- What a card makes of the worth: for who plays it no card is better, and some card keeps it. Assumes nothing.
use Rattle.std.proofs.Common.{◌≡◌, ℕ, ◌<◌, Bool, true, false, not, sym, ap, ◌∙◌, subst, inl, inr, arith}
use Rattle.std.proofs.lemmas.Bool.{eqb-true, eq-eqb, and_parts, and_from, cases_Bool}
use Rattle.cards.specs.Table.{Table, deck, Sound}
use Rattle.tricks.specs.Rules.{our_turn, may}
use Rattle.tricks.proofs.MayLaws.{may_parts}
use Rattle.worth.specs.Value.{worst, best_below, worth_of}
use Rattle.tricks.proofs.CardsLeft.{cards_are, some_card, one_fewer}
use Rattle.worth.proofs.BestLaws.{NoWorse, none_better, best_given}
use Rattle.worth.proofs.ValueLaws.{worth_step, card_within}
use Rattle.claims.specs.Advice.{worth_by, keeps, Pays}

-- a card keeps the worth just if it may be played and gives the worth
pub kept : (t : Table) (c : ℕ) → keeps t c ≡ true → (may t c ≡ true) × (worth_by t c ≡ worth_of t)
kept t c y = let (m, e) = and_parts _ _ y in (m, eqb-true _ _ e)

pub keeping : (t : Table) (c : ℕ) → may t c ≡ true → worth_by t c ≡ worth_of t → keeps t c ≡ true
keeping t c m e = and_from _ _ m (eq-eqb _ _ e)

-- what is no worse for a side pays it; what is no worse for the other is paid for
pays_own : (side : Bool) (a b : ℕ) → NoWorse side a b → Pays side b a
pays_own true a b h = h
pays_own false a b h = h

pays_other : (side : Bool) (a b : ℕ) → NoWorse (not side) a b → Pays side a b
pays_other true a b h = h
pays_other false a b h = h

module _ (t : Table) (n : ℕ) (s : Sound t n) where
  -- for who is to play, no card is better than the worth
  no_better : (c : ℕ) → may t c ≡ true → NoWorse (our_turn t) (worth_of t) (worth_by t c)
  no_better c m =
      subst (λ (v : ℕ). NoWorse (our_turn t) v (worth_by t c)) (sym (worth_step t n s (omega (arith, one_fewer t c m))))
      (none_better (may t) worth_of n t deck c (may_parts t c m).card m)

  -- where the side is to play, the worth pays it no less than any card; where the other is, any card pays it no less than the worth
  pub own_card : (side : Bool) → our_turn t ≡ side → (c : ℕ) → may t c ≡ true → Pays side (worth_by t c) (worth_of t)
  own_card side o c m = pays_own side _ _ (subst (λ (b : Bool). NoWorse b (worth_of t) (worth_by t c)) o (no_better c m))

  pub other_card : (side : Bool) → our_turn t ≡ not side → (c : ℕ) → may t c ≡ true → Pays side (worth_of t) (worth_by t c)
  other_card side o c m = pays_other side _ _ (subst (λ (b : Bool). NoWorse b (worth_of t) (worth_by t c)) o (no_better c m))

  -- some card keeps the worth, while a trick is left
  pub some_keeps : 0 < n → (c : ℕ) × (keeps t c ≡ true)
  some_keeps l = elim (best_given (may t) worth_of n t deck) [
    | inl e ↦ let (c, m) = some_card t n s l in (c, keeping t c m (at_worst c m (step ∙ e)))
    | inr (c, _, m, e) ↦ (c, keeping t c m (sym (step ∙ e)))
  ]
    where
      step : worth_of t ≡ best_below (may t) worth_of n t deck
      step = worth_step t n s (omega (arith, cards_are t n s))

      at_worst : (c : ℕ) → may t c ≡ true → worth_of t ≡ worst (our_turn t) n → worth_by t c ≡ worth_of t
      at_worst c m e = elim (cases_Bool (our_turn t)) [
        | inl o ↦ let w : worth_of t ≡ 0 = e ∙ ap (λ (b : Bool). worst b n) o in omega (arith, own_card true o c m)
        | inr o ↦ let w : worth_of t ≡ n = e ∙ ap (λ (b : Bool). worst b n) o in omega (arith, own_card false o c m, card_within t n c s m)
      ]
