use Rattle.claims.proofs.FailLaws.{fails_is}
use Rattle.claims.proofs.stands.fails_is_stands.Goals as goal

pub returns : goal.returns
returns c = fails_is
