-- The lowest card that passes a test, found by trying the cards. Assumes nothing.
use Rattle.std.proofs.Common.{◌≡◌, ℕ, ◌<◌, Bool, true, false, ◌&&◌, Some, None, Option, sym, ap, ◌∙◌, inl, inr}
use Rattle.std.proofs.lemmas.Bool.{cases_Bool, and_from, and_left}
use Rattle.cards.specs.Table.{Table, deck}
use Rattle.tricks.specs.Rules.{may}
use Rattle.tricks.proofs.MayLaws.{may_parts}
use Rattle.claims.specs.Advice.{lowest_below, worth_by}
use Rattle.claims.specs.Tried.{LowestCard}
use Rattle.claims.proofs.LowestLaws.{lowest_takes, lowest_up}

-- may card c be played, and does what it brings pass
abbrev pub may_pass : Table → (ℕ → Bool) → ℕ → Bool
may_pass t passes c = may t c && passes (worth_by t c)

-- if the test says just what passes, what was found is the lowest card that may be played and passes
module _ (passes : ℕ → Bool) where
  no_pass : (Says : ℕ → Bool → Type 0) (t : Table) (n : ℕ) → ((c : ℕ) → c < n → may t c ≡ true → Says (worth_by t c) false) → ((w : ℕ) (b : Bool) → Says w b → b ≡ passes w) →
      (d : ℕ) → d < n → may_pass t passes d ≡ false
  no_pass Says t n none just d l = elim (cases_Bool (may t d)) [
    | inl m ↦ ap (λ (x : Bool). x && passes (worth_by t d)) m ∙ sym (just _ false (none d l m))
    | inr m ↦ and_left _ _ m
  ]

  pub lowest_told : {Says : ℕ → Bool → Type 0} {t : Table} (o : Option ℕ) → LowestCard Says t o → ((w : ℕ) (b : Bool) → Says w b → b ≡ passes w) →
      o ≡ lowest_below (may_pass t passes) deck
  lowest_told {Says = Says} {t = t} None f just = sym (lowest_up (may_pass t passes) deck (no_pass Says t deck f.before just))
  lowest_told {Says = Says} {t = t} (Some c) f just =
      let (legal, says) = f.passes in
      sym (lowest_takes (may_pass t passes) c deck (may_parts t c legal).card (lowest_up (may_pass t passes) c (no_pass Says t c f.before just)) (and_from _ _ legal (sym (just _ true says))))
