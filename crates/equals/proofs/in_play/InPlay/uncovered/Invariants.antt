use Rattle.cards.specs.Table.{deck, count}
use Rattle.cards.specs.Bits.{bit}
use Rattle.equals.specs.Covered.{covered}
use Rattle.equals.proofs.SiftLaws.{Sifted}
use Rattle.equals.proofs.in_play.InPlay.uncovered.Given as goal

abbrev pub invariant-loop-card : goal.invariant-loop-card
invariant-loop-card l = Sifted l.initial.left.bits l.left.bits l.found.bits (covered (bit l.self.own.bits) (bit l.self.all.bits))

-- the cards left fall
abbrev pub decreases-loop-card : goal.decreases-loop-card
decreases-loop-card l = count (bit l.left.bits) deck
