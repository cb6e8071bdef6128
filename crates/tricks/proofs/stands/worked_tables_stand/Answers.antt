use Rattle.tricks.proofs.Worked.{worked}
use Rattle.tricks.proofs.stands.worked_tables_stand.Goals as goal

pub returns : goal.returns
returns c = worked
