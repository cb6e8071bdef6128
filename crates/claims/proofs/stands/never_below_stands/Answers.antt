use Rattle.claims.proofs.LineLaws.{never_below}
use Rattle.claims.proofs.stands.never_below_stands.Goals as goal

pub returns : goal.returns
returns c = never_below
