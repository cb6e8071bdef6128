-- An input in bytes: a deal with a row of cards and a claim, to be judged; or a deal with a side and the other side's cards, to be played on. Assumes nothing: these are definitions.
use Rattle.std.specs.Prelude.{◌≡◌, ℕ, ◌+◌, ◌-◌, ◌<◌, true, false, List, length, take, drop, Ok, Err, Result, ◌==◌}
use Rattle.cards.specs.Table.{Table}
use Rattle.cards.specs.Deal.{byte, start_of, table_in}
use Rattle.cards.specs.Faults.{Check, number, Fault, FirstOf, First}
use Rattle.cards.specs.Refusals.{number_of, place_of}
use Rattle.cards.specs.Seen.{seen}
use Rattle.cards.specs.declared.board.Board.{Board}
use Rattle.cards.specs.declared.refusal.Refusal.{Refusal}
use Rattle.cards.specs.declared.room.Room.{Room}
use Rattle.referee.specs.Right.{card_at, table_at, AllFit, Stops, Why}
use Rattle.referee.specs.declared.row.Play.{Play}
use Rattle.worth.specs.Value.{tricks_at}
use Rattle.worth.specs.Positions.{True}
use Rattle.claims.specs.Claimed.{claimable}
use Rattle.claims.specs.Judging.{Judging}
use Rattle.claims.specs.Judged.{judgement_told, JudgementTold}
use Rattle.claims.specs.PlayOn.{Halts}
use Rattle.claims.specs.PlayedOn.{LineTold}
use Rattle.claims.specs.declared.judge.Judgement.{Judgement}
use Rattle.claims.specs.declared.play_on.Line.{Line}

-- ---- a deal and what follows it
-- no check of a deal fails, where F says by check and place what is wrong with it
abbrev pub GoodDeal : (Check → ℕ → Type 0) → Type 0
GoodDeal F = (k : Check) (p : ℕ) → F k p → ⊥

-- what follows the deal
abbrev pub rest_of : List ℕ → List ℕ
rest_of bs = drop (start_of bs 4) bs

-- ---- judging
-- the claim is the last two bytes: its side and its tricks; the deal and the row are all before them
abbrev pub before_claim : List ℕ → List ℕ
before_claim bs = take (length bs - 2) bs

abbrev pub side_byte : List ℕ → ℕ
side_byte bs = byte bs (length bs - 2)

abbrev pub tricks_byte : List ℕ → ℕ
tricks_byte bs = byte bs ((length bs - 2) + 1)

-- the memory that judging has, given the most cards in a hand and the slices for positions: places for the plays of any deal, four times the largest number byte, are its own
abbrev pub judging_room : ℕ → List ℕ → List ℕ → Room
judging_room cards keys worths = record { cards = cards; plays = 1020; positions = length keys; worths = length worths }

-- the table after the row that follows a deal
abbrev pub table_after : List ℕ → Table
table_after bs = table_at (table_in bs) (rest_of bs) (length (rest_of bs))

-- a deal and its row are in order: no check of the deal fails, and each card of the row may be played where it stands
pub record RowStands (bs : List ℕ) (room : Room) : Type 0 where
  pub deal : GoodDeal (Fault 0 bs room)
  pub row : AllFit (table_in bs) (rest_of bs)

-- the first refusal of a deal and its row: the first check of the deal that fails, at its first place; then the first card of the row that may not be played, for what is wrong with it
pub data RowRefused (bs : List ℕ) (room : Room) : ℕ → ℕ → Type 0 where
  bad_deal : {p : ℕ} (k : Check) → First 0 bs room k p → RowRefused bs room (number k) p
  bad_row : {n p : ℕ} → GoodDeal (Fault 0 bs room) → Stops (table_in bs) (rest_of bs) p → Why (table_at (table_in bs) (rest_of bs) p) (card_at (rest_of bs) p) n → RowRefused bs room n p

-- the first refusal of an input that is to be judged: of the deal and its row, and last of the claim
pub data InputRefused (bs : List ℕ) (room : Room) : ℕ → ℕ → Type 0 where
  before : {n p : ℕ} → RowRefused (before_claim bs) room n p → InputRefused bs room n p
  bad_claim : RowStands (before_claim bs) room → claimable (side_byte bs) (tricks_byte bs) (tricks_at (table_after (before_claim bs))) ≡ false → InputRefused bs room 10 0

-- an input is judged: the deal, its row and the claim are in order, and the claim is judged at the table after the row
pub record InputJudged (bs : List ℕ) (room : Room) (keys worths keys' worths' : List ℕ) (j : Judging) : Type 0 where
  pub stands : RowStands (before_claim bs) room
  pub claimed : claimable (side_byte bs) (tricks_byte bs) (tricks_at (table_after (before_claim bs))) ≡ true
  pub judged : JudgementTold (side_byte bs == 0) (tricks_at (table_after (before_claim bs))) (tricks_byte bs) (table_after (before_claim bs)) keys worths keys' worths' j

-- the answer to an input with this room and these slices; a refusal leaves the slices as they were
abbrev pub InputTold : List ℕ → Room → List ℕ → List ℕ → List ℕ → List ℕ → Result Judgement Refusal → Type 0
InputTold bs room keys worths keys' worths' (Ok j) = InputJudged bs room keys worths keys' worths' (judgement_told j)
InputTold bs room keys worths keys' worths' (Err e) = InputRefused bs room (number_of e) (place_of e) × (keys' ≡ keys) × (worths' ≡ worths)

-- the table of a deal and its row, or their refusal
abbrev pub TableTold : List ℕ → Room → Result Board Refusal → Type 0
TableTold bs room (Ok b) = RowStands bs room × (seen b ≡ table_after bs)
TableTold bs room (Err e) = RowRefused bs room (number_of e) (place_of e)

-- ---- playing on
-- the side byte stands after the deal, which it has to follow, and then the cards of the other side
abbrev pub PlayFault : List ℕ → Room → Check → ℕ → Type 0
PlayFault bs room = Fault 1 bs room

abbrev pub player_byte : List ℕ → ℕ
player_byte bs = byte bs (start_of bs 4)

abbrev pub others_row : List ℕ → List ℕ
others_row bs = drop (start_of bs 4 + 1) bs

-- the memory that playing on has
abbrev pub playing_room : ℕ → List Play → List ℕ → List ℕ → Room
playing_room cards plays keys worths = record { cards = cards; plays = length plays; positions = length keys; worths = length worths }

-- a deal and its side byte are in order
pub record SideStands (bs : List ℕ) (room : Room) : Type 0 where
  pub deal : GoodDeal (PlayFault bs room)
  pub side : player_byte bs < 2

-- the refusals before any card is played: of the deal, which ends too early also where no side byte follows it; then of a side byte that means nothing
pub data StartRefused (bs : List ℕ) (room : Room) : ℕ → ℕ → Type 0 where
  no_deal : {p : ℕ} (k : Check) → FirstOf (PlayFault bs room) k p → StartRefused bs room (number k) p
  bad_side : GoodDeal (PlayFault bs room) → 1 < player_byte bs → StartRefused bs room 10 0

-- the first refusal of an input that is to be played on, with the slices for positions before and after: they are written only once the deal and its side byte stand
pub data PlayRefused (bs : List ℕ) (room : Room) (keys worths keys' worths' : List ℕ) : ℕ → ℕ → Type 0 where
  at_start : {n p : ℕ} → StartRefused bs room n p → keys' ≡ keys → worths' ≡ worths → PlayRefused bs room keys worths keys' worths' n p
  bad_line : {n p : ℕ} → SideStands bs room → Halts (player_byte bs == 0) (table_in bs) (others_row bs) n p → True (table_in bs) keys' worths' → PlayRefused bs room keys worths keys' worths' n p

-- an input is played on: its deal and side byte are in order, and the line of play is told
pub record InputPlayed (bs : List ℕ) (room : Room) (plays plays' : List Play) (keys worths keys' worths' : List ℕ) (x : Line) : Type 0 where
  pub stands : SideStands bs room
  pub line : LineTold (player_byte bs == 0) (table_in bs) (others_row bs) plays plays' keys worths keys' worths' x

-- the answer to an input with this room and lent memory; a refusal leaves the plays as they were
abbrev pub PlayTold : List ℕ → Room → List Play → List Play → List ℕ → List ℕ → List ℕ → List ℕ → Result Line Refusal → Type 0
PlayTold bs room plays plays' keys worths keys' worths' (Ok x) = InputPlayed bs room plays plays' keys worths keys' worths' x
PlayTold bs room plays plays' keys worths keys' worths' (Err e) = PlayRefused bs room keys worths keys' worths' (number_of e) (place_of e) × (plays' ≡ plays)
