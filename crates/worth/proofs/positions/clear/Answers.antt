use Rattle.cards.specs.Seen.{seen}
use Rattle.worth.proofs.PositionLaws.{true_empty}
use Rattle.worth.proofs.positions.clear.Goals as goal

pub returns-clause-kept : goal.returns-clause-kept
returns-clause-kept c = true_empty (seen c.args.root.now) _ _ _ _ (c.fill.ensures.after (λ y e. e)) (c.fill-2.ensures.after (λ y e. e))
