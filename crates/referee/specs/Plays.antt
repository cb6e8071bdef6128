-- A play by its numbers: who played, which card, and who took the trick that it ended. Assumes nothing: these are definitions.
use Rattle.std.specs.Prelude.{ℕ, List, map, None, Option}
use Rattle.cards.specs.Table.{Table}
use Rattle.tricks.specs.Rules.{turn}
use Rattle.tricks.specs.Taken.{taker_of, taken_by}
use Rattle.referee.specs.declared.row.Play.{Play}

-- who took the trick is none where the card ended none
pub record Noted : Type 0 where
  pub player : ℕ
  pub card : ℕ
  pub taker : Option ℕ

-- the play of card c at table t, by who is to play
abbrev pub noted : Table → ℕ → Noted
noted t c = record { player = turn t; card = c; taker = taken_by t c }

-- a play by its numbers
abbrev pub note_of : Play → Noted
note_of p = record { player = p.player.seat; card = p.card.number; taker = taker_of p.taker }

-- a play that says nothing: the first card of player 0, which ends no trick
abbrev pub blank : Noted
blank = record { player = 0; card = 0; taker = None }

abbrev pub notes_of : List Play → List Noted
notes_of plays = map note_of plays
