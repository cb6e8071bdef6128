use Rattle.worth.proofs.PlayLaws.{fewer}
use Rattle.worth.proofs.stands.fewer_stands.Goals as goal

pub returns : goal.returns
returns c = fewer
