use Rattle.tricks.proofs.Stays.{keeps_sound}
use Rattle.tricks.proofs.stands.keeps_sound_stands.Goals as goal

pub returns : goal.returns
returns c = keeps_sound
