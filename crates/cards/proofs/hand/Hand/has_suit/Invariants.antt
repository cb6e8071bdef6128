use Rattle.std.proofs.Common.{◌≡◌, false}
use Rattle.cards.specs.Table.{has_suit}
use Rattle.cards.specs.Bits.{bit}
use Rattle.cards.specs.Numbers.{suit_number}
use Rattle.cards.proofs.hand.Hand.has_suit.Given as goal

abbrev pub invariant-loop-number : goal.invariant-loop-number
invariant-loop-number l = has_suit (bit l.self.bits) (suit_number l.suit) l.number ≡ false
