use Rattle.worth.proofs.PlayLaws.{at_most}
use Rattle.worth.proofs.stands.at_most_stands.Goals as goal

pub returns : goal.returns
returns c = at_most
