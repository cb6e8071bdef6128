use Rattle.cards.specs.Few.{listed}
use Rattle.cards.specs.Seen.{seen}
use Rattle.referee.proofs.LogLaws.{Going}
use Rattle.referee.proofs.row.log_row.Given as goal

abbrev pub invariant-loop-place : goal.invariant-loop-place
invariant-loop-place l = Going (seen l.board) l.row l.place (seen l.table) (listed l.plays)
