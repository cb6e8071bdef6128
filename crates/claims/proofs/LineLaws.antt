-- Who goes by the advice is at every turn no worse off than at the start. Assumes nothing.
use Rattle.std.proofs.Common.{◌≡◌, ℕ, ◌+◌, Bool, true, false, subst, arith}
use Rattle.cards.specs.Table.{Table, Sound}
use Rattle.tricks.specs.Rules.{our_turn, may, after, gains}
use Rattle.tricks.specs.Statements.{left_after}
use Rattle.tricks.proofs.Stays.{keeps_sound}
use Rattle.worth.specs.Value.{worth_of}
use Rattle.tricks.proofs.CardsLeft.{some_trick}
use Rattle.worth.proofs.ValueLaws.{value_is_worth, worth_is}
use Rattle.claims.specs.Advice.{worth_by, Advises, Pays}
use Rattle.claims.specs.Line.{start, then_advice, then_other, NeverBelow}
use Rattle.claims.proofs.CardLaws.{other_card}

-- before any card the worth pays for itself
pays_start : (side : Bool) (v : ℕ) → Pays side v (0 + v)
pays_start true v = omega arith
pays_start false v = omega arith

-- what pays, where part of it is exchanged for what pays that
pays_more : (side : Bool) (v g w h x : ℕ) → Pays side v (g + w) → Pays side w (h + x) → Pays side v ((g + h) + x)
pays_more true v g w h x a b = omega arith
pays_more false v g w h x a b = omega arith

-- the card advised keeps the worth
adv_keeps : (side : Bool) (adv : Table → ℕ) (t : Table) (n : ℕ) → Advises side adv → Sound t n → our_turn t ≡ side → may t (adv t) ≡ true → worth_by t (adv t) ≡ worth_of t
adv_keeps side adv t n good s o m =
    let (g, k) = good.keeps t n (worth_of t) s o (some_trick t n (adv t) s m) (value_is_worth t n s) in
    omega (arith, worth_is (after t (adv t)) (left_after t n) _ (keeps_sound t n (adv t) s m) k)

pub never_below : NeverBelow
never_below side adv t _ n _ good s start = (n, s, pays_start side (worth_of t))
never_below side adv t _ n _ good s (then_advice {u = u} {g = g} r o m) =
    let (k, b, p) = never_below side adv t u n g good s r in
    let e : g + worth_of u ≡ (g + gains u (adv u)) + worth_of (after u (adv u)) = omega (arith, adv_keeps side adv u k good b o m) in
    (left_after u k, keeps_sound u k (adv u) b m, subst (Pays side (worth_of t)) e p)
never_below side adv t _ n _ good s (then_other {u = u} {g = g} c r o m) =
    let (k, b, p) = never_below side adv t u n g good s r in
    (left_after u k, keeps_sound u k c b m, pays_more side (worth_of t) g (worth_of u) (gains u c) (worth_of (after u c)) p (other_card u k b side o c m))
