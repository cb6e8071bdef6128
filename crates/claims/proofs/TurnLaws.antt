-- Whose turn it is. Assumes nothing.
use Rattle.std.proofs.Common.{◌≡◌, ℕ, Bool, true, false, not, eqb, [], ◌∷◌, ◌++◌, length, sym, refl, ap, ◌∙◌, inl, inr, arith, length-append}
use Rattle.std.proofs.lemmas.Bool.{both_ways, not-true, not-false, cases_Bool}
use Rattle.cards.specs.Table.{Table, pick}
use Rattle.tricks.specs.Rules.{our_turn, after}
use Rattle.claims.specs.Judging.{is_own}

-- a side is not the other
pub one_side : (side : Bool) → side ≡ not side → ⊥
one_side true e = both_ways true e refl
one_side false e = both_ways false refl e

-- what is a side's own, and what is the other's
pub own_side : (side ours : Bool) → is_own side ours ≡ true → ours ≡ side
own_side true ours e = e
own_side false ours e = not-true _ e

pub other_side : (side ours : Bool) → is_own side ours ≡ false → ours ≡ not side
other_side true ours e = e
other_side false ours e = not-false _ e

-- within a trick the turns alternate
pub alternates : (t : Table) (c : ℕ) → eqb (length t.trick) 3 ≡ false → our_turn (after t c) ≡ not (our_turn t)
unfolding after
alternates t c e = let f = length-append t.trick (c ∷ []) in grind arith

-- so the side that is to play again after its card has ended a trick, and leads
pub leads_again : (t : Table) (c : ℕ) (side : Bool) → our_turn t ≡ side → our_turn (after t c) ≡ side → (after t c).trick ≡ []
unfolding after
leads_again t c side o p = elim (cases_Bool (eqb (length t.trick) 3)) [
  | inl e ↦ ap (λ (b : Bool). pick b [] (t.trick ++ (c ∷ []))) e
  | inr e ↦ absurd (one_side side (sym p ∙ alternates t c e ∙ ap not o))
]
