-- What the parts of playing on hand on. Assumes nothing: these are definitions.
use Rattle.std.specs.Prelude.{◌≡◌, ℕ, ◌+◌, ◌<◌, ◌≤◌, Bool, true, List, length, Some, None, Ok, Err, Option, Result}
use Rattle.cards.specs.Table.{Table, cards_left}
use Rattle.cards.specs.Few.{listed}
use Rattle.cards.specs.Seen.{seen}
use Rattle.cards.specs.Refusals.{number_of, place_of}
use Rattle.cards.specs.declared.few.Few.{Few}
use Rattle.cards.specs.declared.refusal.Refusal.{Refusal}
use Rattle.tricks.specs.Rules.{may, after}
use Rattle.referee.specs.Right.{card_at}
use Rattle.referee.specs.Parts.{Turned}
use Rattle.claims.specs.PlayOn.{Runs, Halts}
use Rattle.claims.specs.declared.play_on.Next.{Next}

-- card c was played at table t: x has it, and the table after it, with so many cards of the row used
pub record NextPlayed (t : Table) (c used : ℕ) (x : Next) : Type 0 where
  pub legal : may t c ≡ true
  pub card : x.card.number ≡ c
  pub table : seen x.board ≡ after t c
  pub spent : x.used ≡ used

-- the turn of the row cs, of which i cards are used: its end, its next card, or why that may not be played
abbrev pub ByRow : Table → List ℕ → ℕ → Result (Option Next) Refusal → Type 0
ByRow t cs i (Ok None) = i ≡ length cs
ByRow t cs i (Ok (Some x)) = (i < length cs) × NextPlayed t (card_at cs i) (i + 1) x
ByRow t cs i (Err e) = (i < length cs) × Turned t (card_at cs i) i e

-- what is played next: the card that is advised, if one is, else what the row says
abbrev pub NextTold : Option ℕ → Table → List ℕ → ℕ → Result (Option Next) Refusal → Type 0
NextTold None t cs i r = ByRow t cs i r
NextTold (Some c) t cs i (Ok None) = ⊥
NextTold (Some c) t cs i (Ok (Some x)) = NextPlayed t c i x
NextTold (Some c) t cs i (Err e) = ⊥

-- the cards ds are those that are played from t on, no more than are left there
pub record CourseIs (side : Bool) (t : Table) (cs ds : List ℕ) : Type 0 where
  pub few : length ds ≤ cards_left t
  pub runs : Runs side t cs ds

-- these cards, or why a card of the row is refused
abbrev pub CourseTold : Bool → Table → List ℕ → Result (Few ℕ 32) Refusal → Type 0
CourseTold side t cs (Ok x) = CourseIs side t cs (listed x)
CourseTold side t cs (Err e) = Halts side t cs (number_of e) (place_of e)
