use Rattle.equals.proofs.Swap.{as_good}
use Rattle.equals.proofs.stands.as_good_stands.Goals as goal

pub returns : goal.returns
returns c = as_good
