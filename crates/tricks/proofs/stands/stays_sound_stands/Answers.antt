use Rattle.tricks.proofs.Stays.{stays_sound}
use Rattle.tricks.proofs.stands.stays_sound_stands.Goals as goal

pub returns : goal.returns
returns c = stays_sound
