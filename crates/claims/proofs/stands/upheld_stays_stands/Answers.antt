use Rattle.claims.proofs.FailLaws.{upheld_stays}
use Rattle.claims.proofs.stands.upheld_stays_stands.Goals as goal

pub returns : goal.returns
returns c = upheld_stays
