use Rattle.claims.proofs.FailLaws.{refused_stays}
use Rattle.claims.proofs.stands.refused_stays_stands.Goals as goal

pub returns : goal.returns
returns c = refused_stays
