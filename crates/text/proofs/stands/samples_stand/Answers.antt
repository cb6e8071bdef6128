use Rattle.std.proofs.Common.{refl}
use Rattle.std.specs.Fmt.{digits}
use Rattle.text.specs.Cards.{cards_below}
use Rattle.text.proofs.stands.samples_stand.Goals as goal

pub returns : goal.returns
unfolding digits cards_below
returns c = record {
  ace = refl;
  ten = refl;
  row = refl;
  no_cards = refl;
  table = refl;
  refusal = refl;
  upheld = refl;
  not_upheld = refl;
  answers = refl;
  plays = refl;
  no_plays = refl;
}
