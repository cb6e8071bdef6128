use Rattle.cards.specs.Bits.{bit}
use Rattle.cards.specs.Seen.{seen, tricks_left}
use Rattle.cards.proofs.Order.{in_order}
use Rattle.worth.proofs.EqualLaws.{serving_enough}
use Rattle.worth.proofs.search.candidates.Goals as goal

pub returns : goal.returns
returns c = let b = c.args.board.now in serving_enough (seen b) (tricks_left b) (bit c.lowest_equals.result.bits) (in_order b).sound c.lowest_equals.ensures.serves
