use Rattle.tricks.proofs.MayLaws.{somebody_may}
use Rattle.tricks.proofs.stands.somebody_may_stands.Goals as goal

pub returns : goal.returns
returns c = somebody_may
