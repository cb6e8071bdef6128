-- What is answered to who plays on from a table and lends memory for it. Assumes nothing: these are definitions.
use Rattle.std.specs.Prelude.{◌≡◌, ℕ, ◌+◌, ◌<◌, ◌≤◌, Bool, true, false, List, map, length, take, drop, Ok, Err, Result}
use Rattle.cards.specs.Table.{Table, cards_left}
use Rattle.cards.specs.Seen.{seen}
use Rattle.cards.specs.Refusals.{number_of, place_of}
use Rattle.cards.specs.declared.refusal.Refusal.{Refusal}
use Rattle.tricks.specs.Plays.{Worth}
use Rattle.referee.specs.Plays.{Noted, notes_of}
use Rattle.referee.specs.Right.{table_at, PlaysOf}
use Rattle.referee.specs.declared.row.Play.{Play}
use Rattle.worth.specs.Positions.{True}
use Rattle.worth.specs.Answer.{usable}
use Rattle.claims.specs.Advice.{Pays}
use Rattle.claims.specs.PlayOn.{Runs, Halts, won}
use Rattle.claims.specs.declared.play_on.Line.{Line}

-- the cards of plays
abbrev pub cards_in : List Play → List ℕ
cards_in plays = map (λ p. p.card.number) plays

-- `side` went by advice from t on against the row cs: the cards ds are those that come about, the plays are theirs, and u is the table after them.
-- At every turn the tricks taken so far and the worth of the table reached are together no worse for the side than the worth at the start; so at the end it has at least that
pub record WellPlayed (side : Bool) (t : Table) (cs ds : List ℕ) (ns : List Noted) (u : Table) : Type 0 where
  pub runs : Runs side t cs ds
  pub plays : PlaysOf t ds ns
  pub reached : u ≡ table_at t ds (length ds)
  pub never_below : (k : ℕ) → k ≤ length ds → (v w : ℕ) → Worth t v → Worth (table_at t ds k) w → Pays side v (won t ds k + w)
  pub gets : cards_left u ≡ 0 → (v : ℕ) → Worth t v → Pays side v (won t ds (length ds))

-- a line of play is told: there was room; its plays stand first in the lent slice, the rest of which stays; and what the slices for positions hold afterwards is true
pub record LineTold (side : Bool) (t : Table) (cs : List ℕ) (plays plays' : List Play) (keys worths keys' worths' : List ℕ) (x : Line) : Type 0 where
  pub roomy : cards_left t ≤ length plays
  pub lent : usable keys worths ≡ true
  pub few : x.plays ≤ length plays
  pub line : WellPlayed side t cs (cards_in (take x.plays plays')) (notes_of (take x.plays plays')) (seen x.board)
  pub rest : drop x.plays plays' ≡ drop x.plays plays
  pub kept : True t keys' worths'

-- a refusal by its number and place: first of places for plays, then of slices for positions, which are as they were; then of a card of the row
pub data LineRefused (side : Bool) (t : Table) (cs : List ℕ) (places : ℕ) (keys worths keys' worths' : List ℕ) : ℕ → ℕ → Type 0 where
  no_places : places < cards_left t → keys' ≡ keys → worths' ≡ worths → LineRefused side t cs places keys worths keys' worths' 11 1
  no_slots : cards_left t ≤ places → usable keys worths ≡ false → keys' ≡ keys → worths' ≡ worths → LineRefused side t cs places keys worths keys' worths' 11 2
  bad_card : {n p : ℕ} → cards_left t ≤ places → usable keys worths ≡ true → Halts side t cs n p → True t keys' worths' → LineRefused side t cs places keys worths keys' worths' n p

-- the answer for table t and the row cs with this lent memory; a refusal leaves the lent plays as they were
abbrev pub PlayOnTold : Bool → Table → List ℕ → List Play → List Play → List ℕ → List ℕ → List ℕ → List ℕ → Result Line Refusal → Type 0
PlayOnTold side t cs plays plays' keys worths keys' worths' (Ok x) = LineTold side t cs plays plays' keys worths keys' worths' x
PlayOnTold side t cs plays plays' keys worths keys' worths' (Err e) = LineRefused side t cs (length plays) keys worths keys' worths' (number_of e) (place_of e) × (plays' ≡ plays)
