use Rattle.std.proofs.Common.{refl}
use Rattle.std.proofs.lemmas.Grind.{put_two}
use Rattle.text.proofs.deal.ShownBoardDisplay.fmt.Goals as goal

pub returns-clause-writes : goal.returns-clause-writes
returns-clause-writes g c = λ plain ok. let first = c.in_ok-show_first_line.ensures plain refl in put_two _ _ _ _ _ _ _ first (c.show_hands.ensures first.plain ok) refl
