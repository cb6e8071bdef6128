use Rattle.std.proofs.Common.{arith}
use Rattle.std.proofs.lemmas.Grind.{common_steps}
use Rattle.cards.proofs.BitLaws.{bit_past}
use Rattle.cards.specs.Table.{deck}
use Rattle.referee.proofs.row.holds_byte.Goals as goal

pub returns : goal.returns
returns c = grind (arith, common_steps, bit_past c.args.hand.bits c.args.byte deck c.args.hand.low)
