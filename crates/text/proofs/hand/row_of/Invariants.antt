use Rattle.cards.specs.Bits.{bit}
use Rattle.cards.specs.Few.{listed}
use Rattle.text.proofs.HandLaws.{RowSoFar}
use Rattle.text.proofs.hand.row_of.Given as goal

abbrev pub invariant-loop-number : goal.invariant-loop-number
invariant-loop-number l = RowSoFar (bit l.hand.bits) l.number (listed l.row)
