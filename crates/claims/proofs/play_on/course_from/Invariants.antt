use Rattle.cards.specs.Table.{cards_left}
use Rattle.cards.specs.Few.{listed}
use Rattle.cards.specs.Seen.{seen}
use Rattle.worth.specs.Lent.{SameSlots}
use Rattle.claims.specs.Sides.{is_ours}
use Rattle.claims.proofs.NextLaws.{OnTheWay}
use Rattle.claims.proofs.play_on.course_from.Given as goal

abbrev pub invariant-loop-next : goal.invariant-loop-next
invariant-loop-next l = record {
  way : OnTheWay (is_ours l.side) (seen l.board) l.row (listed l.course) l.used (seen l.table);
  same : SameSlots l.fn.positions l.positions;
}

abbrev pub decreases-loop-next : goal.decreases-loop-next
decreases-loop-next l = cards_left (seen l.table)
