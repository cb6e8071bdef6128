use Rattle.claims.proofs.AdviceLaws.{advice_exists}
use Rattle.claims.proofs.stands.advice_exists_stands.Goals as goal

pub returns : goal.returns
returns c = advice_exists
