use Rattle.worth.proofs.OtherSide.{both_sides}
use Rattle.worth.proofs.stands.both_sides_stands.Goals as goal

pub returns : goal.returns
returns c = both_sides
