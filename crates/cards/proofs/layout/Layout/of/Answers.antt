use Rattle.std.proofs.Common.{rules}
use Rattle.cards.proofs.DealLaws.{first_place, next_place, four_places}
use Rattle.cards.proofs.layout.Layout.of.Goals as goal

pub invariant_of-result : goal.invariant_of-result
invariant_of-result c = search (rules, first_place, next_place, four_places)
