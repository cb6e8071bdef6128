use Rattle.std.proofs.Common.{◌∙◌}
use Rattle.worth.proofs.SearchLaws.{whole_worth}
use Rattle.worth.proofs.search.worth_under.Goals as goal

pub returns-clause-worth : goal.returns-clause-worth
returns-clause-worth c = c.search.ensures.worth ∙ whole_worth c.args.board.now _ c.tricks_left-left.ensures
