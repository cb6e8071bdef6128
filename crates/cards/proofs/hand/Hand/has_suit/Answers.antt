use Rattle.std.proofs.Common.{rules, sym, refl}
use Rattle.cards.specs.Table.{has_suit}
use Rattle.cards.proofs.SuitLaws.{none_more, some_at}
use Rattle.cards.proofs.hand.Hand.has_suit.Goals as goal

pub loop-number-init : goal.loop-number-init
unfolding has_suit
loop-number-init c = refl

pub returns-then-holds_of : goal.returns-then-holds_of
returns-then-holds_of c = sym (some_at _ _ _ _ c.loop-number-test.true (sym c.if-holds_of.ensures))

pub loop-number-preserved : goal.loop-number-preserved
loop-number-preserved c = search (rules, none_more)
