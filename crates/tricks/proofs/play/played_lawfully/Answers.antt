use Rattle.std.proofs.Common.{ap, ◌∙◌}
use Rattle.cards.specs.Seen.{seen}
use Rattle.tricks.specs.Taken.{gain_of}
use Rattle.tricks.proofs.TrickLaws.{gain_is}
use Rattle.tricks.proofs.AfterLaws.{left_is}
use Rattle.tricks.proofs.play.played_lawfully.Goals as goal

pub returns : goal.returns
returns c = record {
  legal = c.requires;
  table = c.board_after-board.ensures;
  left = left_is c.args.board.now c.board_after-board.result c.args.card.number c.requires c.board_after-board.ensures;
  taker = c.taker-taker.ensures;
  gain = ap gain_of c.taker-taker.ensures ∙ gain_is (seen c.args.board.now) c.args.card.number;
}
