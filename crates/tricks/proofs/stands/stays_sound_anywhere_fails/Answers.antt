use Rattle.tricks.proofs.Anywhere.{anywhere_fails}
use Rattle.tricks.proofs.stands.stays_sound_anywhere_fails.Goals as goal

pub returns : goal.returns
returns c = anywhere_fails
