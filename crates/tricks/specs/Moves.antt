-- What a card played makes of a board. Assumes nothing: these are definitions.
use Rattle.std.specs.Prelude.{◌≡◌, ℕ, true}
use Rattle.cards.specs.Seen.{seen, tricks_left}
use Rattle.cards.specs.declared.board.Board.{Board}
use Rattle.tricks.specs.Rules.{may, after, gains}
use Rattle.tricks.specs.Statements.{left_after}
use Rattle.tricks.specs.Taken.{taker_of, taken_by, gain_of}
use Rattle.tricks.specs.declared.play.Played.{Played}

-- p is what comes of board b by card c: the card may be played; the table is the one after it, with as many tricks left;
-- and the player, if any, is who took the trick that it ended
pub record After (b : Board) (c : ℕ) (p : Played) : Type 0 where
  pub legal : may (seen b) c ≡ true
  pub table : seen p.board ≡ after (seen b) c
  pub left : tricks_left p.board ≡ left_after (seen b) (tricks_left b)
  pub taker : taker_of p.taker ≡ taken_by (seen b) c
  pub gain : gain_of (taker_of p.taker) ≡ gains (seen b) c
