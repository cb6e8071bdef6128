use Rattle.claims.proofs.FailLaws.{upheld_by_advice}
use Rattle.claims.proofs.stands.upheld_by_advice_stands.Goals as goal

pub returns : goal.returns
returns c = upheld_by_advice
