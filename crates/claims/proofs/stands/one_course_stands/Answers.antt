use Rattle.claims.proofs.CourseLaws.{one_course}
use Rattle.claims.proofs.stands.one_course_stands.Goals as goal

pub returns : goal.returns
returns c = one_course
