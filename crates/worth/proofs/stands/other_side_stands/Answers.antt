use Rattle.worth.proofs.OtherSide.{other_side}
use Rattle.worth.proofs.stands.other_side_stands.Goals as goal

pub returns : goal.returns
returns c = other_side
