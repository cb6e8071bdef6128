use Rattle.std.proofs.Common.{rules}
use Rattle.std.proofs.lemmas.Nat.{or_lt}
use Rattle.cards.proofs.BitLaws.{bit-or}
use Rattle.cards.proofs.hand.Hand.union.Goals as goal

pub invariant_of-result : goal.invariant_of-result
invariant_of-result c = search (rules, or_lt)

pub returns : goal.returns
returns c = search (rules, bit-or)
