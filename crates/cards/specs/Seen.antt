-- A board as the table of the game. Assumes nothing: these are definitions.
use Rattle.std.specs.Prelude.{ℕ}
use Rattle.cards.specs.Table.{Table}
use Rattle.cards.specs.Hands.{table_of, tricks_of}
use Rattle.cards.specs.declared.board.Board.{Board}

-- the table that a board stands for
abbrev pub seen : Board → Table
seen b = table_of b.trump b.hands b.leader b.trick b.played

-- the tricks still to be finished, the one on the table among them
abbrev pub tricks_left : Board → ℕ
tricks_left b = tricks_of b.hands b.leader b.played
