use Rattle.std.proofs.Common.{rules, refl}
use Rattle.cards.specs.Deal.{largest}
use Rattle.cards.proofs.DealLaws.{largest_more}
use Rattle.cards.proofs.layout.Layout.most_cards.Goals as goal

pub loop-start-init : goal.loop-start-init
unfolding largest
loop-start-init c = refl

pub loop-start-preserved : goal.loop-start-preserved
loop-start-preserved c = search (rules, largest_more)
