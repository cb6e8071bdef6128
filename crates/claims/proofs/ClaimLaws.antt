-- A claim is upheld just if the side can take it, and refused just if it cannot. Assumes nothing.
use Rattle.std.proofs.Common.{◌≡◌, ℕ, suc, ◌-◌, Bool, true, false, inl, inr, arith}
use Rattle.std.proofs.lemmas.Bool.{not-true, leb-true, leb-false, and_parts, and_cases, not_from_false, cases_Bool}
use Rattle.cards.specs.Table.{Table, Sound}
use Rattle.tricks.specs.Plays.{Takes, Held}
use Rattle.worth.specs.Value.{worth_of}
use Rattle.worth.proofs.PlayLaws.{takes_fewer, held_more, takes_held}
use Rattle.worth.proofs.ValueLaws.{value_is_worth}
use Rattle.claims.specs.Claims.{Can, Cannot, upheld, Claim, UpheldIsCan, RefusedIsCannot}

-- where v can be taken and held to, it decides each claim
module _ (t : Table) (n v : ℕ) (takes : Takes v t) (held : Held v t) where
  can : (side : Bool) (k : ℕ) → upheld side n k v ≡ true → Can side n k t
  can true k e = takes_fewer k (leb-true k v e) takes
  can false k e = let (a, b) = and_parts _ _ e in (leb-true k n a, held_more (n - k) (leb-true v (n - k) b) held)

  cannot : (side : Bool) (k : ℕ) → upheld side n k v ≡ false → Cannot side n k t
  cannot true k e = let l = leb-false k v e in (k - 1, omega arith, held_more (k - 1) (omega arith) held)
  cannot false k e = elim (and_cases _ _ e) [
    | inl a ↦ inl (leb-false k n a)
    | inr a ↦ inr (takes_fewer (suc (n - k)) (leb-false v (n - k) a) takes)
  ]

-- no claim holds and fails
never_both : (t : Table) (n : ℕ) (side : Bool) (k : ℕ) → Can side n k t → Cannot side n k t → ⊥
never_both t n true k a (j, e, b) = omega (arith, takes_held a b)
never_both t n false k (l, a) b = elim b [ inl h ↦ omega arith | inr h ↦ omega (arith, takes_held h a) ]

-- so the worth does
module _ (t : Table) (n : ℕ) (s : Sound t n) (side : Bool) (k : ℕ) where
  upheld_can : upheld side n k (worth_of t) ≡ true → Can side n k t
  upheld_can = let w = value_is_worth t n s in can t n (worth_of t) w.0 w.1 side k

  refused_cannot : upheld side n k (worth_of t) ≡ false → Cannot side n k t
  refused_cannot = let w = value_is_worth t n s in cannot t n (worth_of t) w.0 w.1 side k

pub upheld_is_can : UpheldIsCan
upheld_is_can t n s side k = (
  upheld_can t n s side k,
  λ a. elim (cases_Bool (upheld side n k (worth_of t))) [
    | inl e ↦ e
    | inr e ↦ absurd (never_both t n side k a (refused_cannot t n s side k e))
  ],
)

pub refused_is_cannot : RefusedIsCannot
refused_is_cannot t n s side k = (
  λ e. refused_cannot t n s side k (not-true _ e),
  λ b. elim (cases_Bool (upheld side n k (worth_of t))) [
    | inl e ↦ absurd (never_both t n side k (upheld_can t n s side k e) b)
    | inr e ↦ not_from_false _ e
  ],
)

pub claim : Claim
claim t n s side k = (
  elim (cases_Bool (upheld side n k (worth_of t))) [
    | inl e ↦ inl (upheld_can t n s side k e)
    | inr e ↦ inr (refused_cannot t n s side k e)
  ],
  never_both t n side k,
)
