-- What the parts of the referee hand on. Assumes nothing: these are definitions.
use Rattle.std.specs.Prelude.{◌≡◌, ℕ, ◌≤◌, true, false, List, ◌++◌, length, drop, IfOk, Ok, Err, Result}
use Rattle.cards.specs.Table.{Table, cards_left}
use Rattle.cards.specs.Seen.{seen}
use Rattle.cards.specs.Few.{listed}
use Rattle.cards.specs.Refusals.{number_of, place_of}
use Rattle.cards.specs.declared.board.Board.{Board}
use Rattle.cards.specs.declared.refusal.Refusal.{Refusal}
use Rattle.tricks.specs.Rules.{may, after}
use Rattle.referee.specs.Plays.{noted, note_of, notes_of}
use Rattle.referee.specs.Row.{why, Outcome, played, refuses, row, refereed}
use Rattle.referee.specs.declared.row.Play.{Play}
use Rattle.referee.specs.declared.row.Step.{Step}
use Rattle.referee.specs.declared.row.Log.{Log}

-- card c may be played at table t, and s has its play and the table after it
pub record Moved (t : Table) (c : ℕ) (s : Step) : Type 0 where
  pub legal : may t c ≡ true
  pub table : seen s.board ≡ after t c
  pub note : note_of s.play ≡ noted t c

-- card c, at a place, may not be played at table t, and e tells why
pub record Turned (t : Table) (c place : ℕ) (e : Refusal) : Type 0 where
  pub illegal : may t c ≡ false
  pub number : number_of e ≡ why t c
  pub at : place_of e ≡ place

abbrev pub Stepped : Table → ℕ → ℕ → Result Step Refusal → Type 0
Stepped t c place (Ok s) = Moved t c s
Stepped t c place (Err e) = Turned t c place e

-- the plays of a row, and the table after them
abbrev pub told_log : Result Log Refusal → Outcome
told_log (Ok l) = played (notes_of (listed l.plays)) (seen l.board)
told_log (Err e) = refuses (number_of e) (place_of e)

-- what comes of a row; one that is taken has a play for each card, and no more cards than were left
pub record Logged (t : Table) (cs : List ℕ) (r : Result Log Refusal) : Type 0 where
  pub answer : told_log r ≡ row t 0 cs
  pub many : IfOk r (λ l. length (listed l.plays) ≡ length cs)
  pub few : IfOk r (λ _. length cs ≤ cards_left t)

-- the same with so many places for plays; one that is taken has room in them
pub record Within (t : Table) (places : ℕ) (cs : List ℕ) (r : Result Log Refusal) : Type 0 where
  pub answer : told_log r ≡ refereed t places cs
  pub many : IfOk r (λ l. length (listed l.plays) ≡ length cs)
  pub fits : IfOk r (λ l. length (listed l.plays) ≤ places)

-- a slice before and after the plays of a row were written to its first places, and the result: of a refused row none are
abbrev pub Written : Result Log Refusal → List Play → List Play → Result Board Refusal → Type 0
Written (Ok l) lent lent' r = (r ≡ Ok l.board) × (lent' ≡ listed l.plays ++ drop (length (listed l.plays)) lent)
Written (Err e) lent lent' r = (r ≡ Err e) × (lent' ≡ lent)
