use Rattle.std.proofs.Common.{rules}
use Rattle.std.proofs.lemmas.Nat.{ones-le}
use Rattle.cards.proofs.CountBits.{ones_count}
use Rattle.cards.proofs.hand.Hand.len.Goals as goal

pub returns : goal.returns
returns c = search (rules, ones_count, ones-le)
