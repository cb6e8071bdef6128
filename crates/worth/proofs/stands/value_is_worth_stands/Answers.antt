use Rattle.worth.proofs.ValueLaws.{value_is_worth}
use Rattle.worth.proofs.stands.value_is_worth_stands.Goals as goal

pub returns : goal.returns
returns c = value_is_worth
