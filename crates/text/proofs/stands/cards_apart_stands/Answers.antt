use Rattle.text.proofs.ReadBack.{cards_apart}
use Rattle.text.proofs.stands.cards_apart_stands.Goals as goal

pub returns : goal.returns
returns c = cards_apart
