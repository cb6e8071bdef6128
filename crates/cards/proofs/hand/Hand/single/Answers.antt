use Rattle.std.proofs.Common.{rules}
use Rattle.cards.proofs.BitLaws.{bit_single, single_low}
use Rattle.cards.proofs.hand.Hand.single.Goals as goal

pub invariant_of-result : goal.invariant_of-result
invariant_of-result c = search (rules, single_low)

pub returns : goal.returns
returns c = search (rules, bit_single)
