use Rattle.equals.proofs.Row.{row_as_good}
use Rattle.equals.proofs.stands.row_as_good_stands.Goals as goal

pub returns : goal.returns
returns c = row_as_good
