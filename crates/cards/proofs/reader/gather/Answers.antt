use Rattle.std.proofs.Common.{rules, arith}
use Rattle.cards.proofs.GatherLaws.{going_none, going_more, going_all}
use Rattle.cards.proofs.reader.gather.Goals as goal

pub loop-i-init : goal.loop-i-init
loop-i-init c = search (rules, going_none)

pub loop-i-preserved : goal.loop-i-preserved
loop-i-preserved c = going_more _ _ _ _ _ _ _ c.loop-i.invariant (omega arith) c.in-Some.ensures.0 c.in-Some.ensures.1 c.with-hand.ensures

pub returns : goal.returns
returns c = search (rules, going_all)
