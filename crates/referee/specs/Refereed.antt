-- What the referee answers and what it writes. Assumes nothing: these are definitions.
use Rattle.std.specs.Prelude.{◌≡◌, ℕ, List, length, take, drop, Ok, Err, Result}
use Rattle.cards.specs.Table.{Table}
use Rattle.cards.specs.Seen.{seen}
use Rattle.cards.specs.Refusals.{number_of, place_of}
use Rattle.cards.specs.declared.board.Board.{Board}
use Rattle.cards.specs.declared.refusal.Refusal.{Refusal}
use Rattle.referee.specs.Plays.{notes_of}
use Rattle.referee.specs.Row.{Outcome, played, refuses, refereed}
use Rattle.referee.specs.declared.row.Play.{Play}

-- the answer that a result and the plays in the first n places of the lent slice tell
abbrev pub told : ℕ → List Play → Result Board Refusal → Outcome
told n lent (Ok b) = played (notes_of (take n lent)) (seen b)
told n lent (Err e) = refuses (number_of e) (place_of e)

-- the places that stay: those past the plays of a row of n cards that is taken, and all if it is refused
abbrev pub stays : ℕ → List Play → Result Board Refusal → List Play
stays n lent (Ok b) = drop n lent
stays n lent (Err e) = lent

-- r is the answer to row cs at table t, with the lent slice before and after
pub record Refereed (t : Table) (cs : List ℕ) (before after : List Play) (r : Result Board Refusal) : Type 0 where
  pub answer : told (length cs) after r ≡ refereed t (length before) cs
  pub rest : stays (length cs) after r ≡ stays (length cs) before r
