use Rattle.worth.proofs.ValueLaws.{one_worth}
use Rattle.worth.proofs.stands.one_worth_stands.Goals as goal

pub returns : goal.returns
returns c = one_worth
