use Rattle.std.proofs.Common.{◌≡◌}
use Rattle.cards.specs.Deal.{number_byte, largest}
use Rattle.cards.proofs.layout.Layout.most_cards.Given as goal

abbrev pub invariant-loop-start : goal.invariant-loop-start
invariant-loop-start l = l.most ≡ largest (number_byte l.self.bytes.now) l.start-index
