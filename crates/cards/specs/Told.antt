-- What the reader's result says, as an answer of the definition. Assumes nothing: these are definitions.
use Rattle.std.specs.Prelude.{ℕ, Ok, Err, Result}
use Rattle.cards.specs.Seen.{seen}
use Rattle.cards.specs.Reading.{Outcome, accepts, refuses}
use Rattle.cards.specs.Refusals.{number_of, place_of}
use Rattle.cards.specs.declared.board.Board.{Board}
use Rattle.cards.specs.declared.deal.Deal.{Deal}
use Rattle.cards.specs.declared.refusal.Refusal.{Refusal}

-- a board, of a deal of so many bytes, or a refusal
abbrev pub told_board : ℕ → Result Board Refusal → Outcome
told_board size (Ok b) = accepts (seen b) size
told_board size (Err e) = refuses (number_of e) (place_of e)

-- a deal or a refusal
abbrev pub told : Result Deal Refusal → Outcome
told (Ok d) = accepts (seen d.board) d.size
told (Err e) = refuses (number_of e) (place_of e)
