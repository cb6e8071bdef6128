use Rattle.cards.specs.Bits.{bit}
use Rattle.cards.proofs.GatherLaws.{Going}
use Rattle.cards.proofs.reader.gather.Given as goal

abbrev pub invariant-loop-i : goal.invariant-loop-i
invariant-loop-i l = Going (bit l.taken.bits) l.from l.cards l.hand.bits l.i
