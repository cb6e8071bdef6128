use Rattle.claims.proofs.ClaimLaws.{refused_is_cannot}
use Rattle.claims.proofs.stands.refused_is_cannot_stands.Goals as goal

pub returns : goal.returns
returns c = refused_is_cannot
