use Rattle.cards.specs.Few.{listed}
use Rattle.cards.specs.Seen.{seen, tricks_left}
use Rattle.worth.specs.Lent.{SameSlots}
use Rattle.claims.specs.Claimed.{claims_side, claims_tricks}
use Rattle.claims.proofs.ReplyLaws.{RowSoFar}
use Rattle.claims.proofs.replies.replies_under.Given as goal

abbrev pub invariant-loop-number : goal.invariant-loop-number
invariant-loop-number l = record {
  row : RowSoFar (seen l.board) (claims_side l.claim) (tricks_left l.board) (claims_tricks l.claim) l.number (listed l.replies);
  same : SameSlots l.fn.positions l.positions;
}
