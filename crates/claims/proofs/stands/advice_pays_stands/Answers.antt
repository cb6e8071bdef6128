use Rattle.claims.proofs.PlayedLaws.{advice_pays}
use Rattle.claims.proofs.stands.advice_pays_stands.Goals as goal

pub returns : goal.returns
returns c = advice_pays
