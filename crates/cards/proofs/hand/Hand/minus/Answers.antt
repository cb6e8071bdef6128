use Rattle.std.proofs.Common.{rules}
use Rattle.cards.proofs.BitLaws.{bit_minus}
use Rattle.cards.proofs.hand.Hand.minus.Goals as goal

pub returns : goal.returns
returns c = search (rules, bit_minus)
