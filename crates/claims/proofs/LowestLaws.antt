-- The lowest number below a bound that passes a test. Assumes nothing.
use Rattle.std.proofs.Common.{◌≡◌, ℕ, zero, suc, ◌+◌, ◌<◌, Bool, true, false, Some, None, Option, sym, refl, ap, ◌∙◌, inl, inr, add-one, arith}
use Rattle.std.proofs.lemmas.Bool.{both_ways, cases_Bool}
use Rattle.cards.specs.Table.{pick}
use Rattle.cards.specs.Deal.{first}
use Rattle.cards.proofs.DealLaws.{first_none, first_some}
use Rattle.cards.proofs.Finds.{Finds, finds_same, finds_fault, finds_first}
use Rattle.claims.specs.Advice.{lowest_below}

-- c passes, and nothing below it does
pub record Lowest (test : ℕ → Bool) (c : ℕ) : Type 0 where
  pub passes : test c ≡ true
  pub before : (d : ℕ) → d < c → test d ≡ false

module _ (test : ℕ → Bool) where
  -- below 0 none passes; one number more passes or not
  pub lowest_none : lowest_below test 0 ≡ None
  unfolding first
  lowest_none = refl

  pub lowest_skips : (i : ℕ) → lowest_below test i ≡ None → test i ≡ false → lowest_below test (i + 1) ≡ None
  lowest_skips i so_far y = first_none _ i so_far (ap (λ (b : Bool). pick b (Some i) None) y)

  pub lowest_takes : (i n : ℕ) → i < n → lowest_below test i ≡ None → test i ≡ true → lowest_below test n ≡ Some i
  lowest_takes i n l so_far y = first_some _ n i i l so_far (ap (λ (b : Bool). pick b (Some i) None) y)

  pub lowest_up : (n : ℕ) → ((d : ℕ) → d < n → test d ≡ false) → lowest_below test n ≡ None
  lowest_up zero f = lowest_none
  lowest_up (suc i) f = sym (ap (lowest_below test) (add-one i)) ∙ lowest_skips i (lowest_up i (λ d l. f d (omega arith))) (f i (omega arith))

  finds_lowest : (n : ℕ) → Finds (λ p. (p < n) × (test p ≡ true)) (lowest_below test n)
  finds_lowest n =
      finds_same
      (λ p h. (omega (arith, h.1, h.2.0), (let e : p ≡ h.0 = h.2.0 in ap test e ∙ h.2.1)))
      (λ p h. (p, h.0, (refl, h.1)))
      (finds_first (λ k p. (p ≡ k) × (test k ≡ true)) _ n (λ j k p q l a b. omega arith) (λ k l. finds_fault (test k) k ((λ y. y), (λ y. y))))

  -- what is not so is false
  never : (d : ℕ) → (test d ≡ true → ⊥) → test d ≡ false
  never d f = elim (cases_Bool (test d)) [ inl y ↦ absurd (f y) | inr y ↦ y ]

  -- what is found is the lowest
  pub lowest_is : (n c : ℕ) → lowest_below test n ≡ Some c → Lowest test c
  lowest_is n c e =
      let f = finds_lowest n in
      let (l, y) = f.here c e in
      record { passes = y; before = λ d k. never d (λ z. f.before c e d k (omega arith, z)) }

  -- one is found just if one passes
  pub lowest_some : (n c : ℕ) → c < n → test c ≡ true → (d : ℕ) × (lowest_below test n ≡ Some d) × Lowest test d
  lowest_some n c l y = go (lowest_below test n) refl
    where
      go : (o : Option ℕ) → lowest_below test n ≡ o → (d : ℕ) × (lowest_below test n ≡ Some d) × Lowest test d
      go None e = absurd ((finds_lowest n).none e c (l, y))
      go (Some d) e = (d, e, lowest_is n d e)

  pub lowest_empty : (n : ℕ) → ((d : ℕ) → test d ≡ false) → lowest_below test n ≡ None
  lowest_empty n f = go (lowest_below test n) refl
    where
      go : (o : Option ℕ) → lowest_below test n ≡ o → lowest_below test n ≡ None
      go None e = e
      go (Some d) e = absurd (both_ways (test d) (f d) (lowest_is n d e).passes)
