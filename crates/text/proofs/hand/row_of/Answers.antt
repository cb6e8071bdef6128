use Rattle.std.proofs.Common.{refl, sym, arith}
use Rattle.text.proofs.HandLaws.{skips, one_more, all}
use Rattle.text.proofs.hand.row_of.Goals as goal

pub loop-number-preserved-then-holds : goal.loop-number-preserved-then-holds
loop-number-preserved-then-holds c = one_more _ _ _ _ _ _ (omega arith) refl (sym c.if-holds.ensures) (rw c.unwrap.ensures at c.push.ensures.ok) c.loop-number.invariant

pub loop-number-preserved : goal.loop-number-preserved
loop-number-preserved c = skips _ _ _ _ (omega arith) (sym c.if-holds.ensures) c.loop-number.invariant

pub returns : goal.returns
returns c = all _ _ _ (omega arith) c.loop-number.invariant
