use Rattle.claims.proofs.ClaimLaws.{claim}
use Rattle.claims.proofs.stands.claim_stands.Goals as goal

pub returns : goal.returns
returns c = claim
