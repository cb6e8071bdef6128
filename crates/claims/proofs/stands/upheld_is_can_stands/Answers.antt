use Rattle.claims.proofs.ClaimLaws.{upheld_is_can}
use Rattle.claims.proofs.stands.upheld_is_can_stands.Goals as goal

pub returns : goal.returns
returns c = upheld_is_can
