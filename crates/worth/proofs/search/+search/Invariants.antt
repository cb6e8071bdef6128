use Rattle.std.proofs.Common.{◌+◌, ◌*◌, ◌<◌}
use Rattle.cards.specs.Bits.{bit}
use Rattle.cards.specs.Table.{cards_left}
use Rattle.cards.specs.Seen.{seen}
use Rattle.worth.specs.Lent.{SameSlots}
use Rattle.worth.proofs.SearchLaws.{SoFar}
use Rattle.worth.proofs.search.+search.Given as goal

abbrev pub decreases-search : goal.decreases-search
decreases-search l = cards_left (seen l.board)

abbrev pub invariant-suits : goal.invariant-suits
invariant-suits l = record {
  so_far : SoFar (seen l.board) l.left l.window (bit l.cards.bits) (13 * l.suit) l.open;
  apart : l.open.low < l.open.high;
  same : SameSlots l.fn.positions l.positions;
}

abbrev pub invariant-loop-rank : goal.invariant-loop-rank
invariant-loop-rank l = record {
  so_far : SoFar (seen l.board) l.left l.window (bit l.cards.bits) (13 * l.suit + l.rank) l.open;
  apart : l.open.low < l.open.high;
  same : SameSlots l.fn.positions l.positions;
}
