-- When a row is taken, and why it is refused, in the words of the game. Assumes nothing: these are definitions.
use Rattle.std.specs.Prelude.{◌≡◌, ℕ, zero, suc, ◌<◌, ◌≤◌, true, false, List, length, ◌≢◌, slice_index, slice_index_or}
use Rattle.cards.specs.Table.{Table, deck, suit, cards_left}
use Rattle.tricks.specs.Rules.{turn, may, after}
use Rattle.referee.specs.Plays.{Noted, noted}
use Rattle.referee.specs.Row.{Outcome, played, refuses}

-- card i of a row
abbrev pub card_at : List ℕ → ℕ → ℕ
card_at cs i = slice_index cs i

-- the table before card i of a row, after all cards before it
unfoldable pub table_at : Table → List ℕ → ℕ → Table
table_at t cs zero = t
table_at t cs (suc i) = after (table_at t cs i) (card_at cs i)

-- card i may be played where it stands
abbrev pub Fits : Table → List ℕ → ℕ → Type 0
Fits t cs i = may (table_at t cs i) (card_at cs i) ≡ true

-- each card of a row may be played where it stands
abbrev pub AllFit : Table → List ℕ → Type 0
AllFit t cs = (i : ℕ) → i < length cs → Fits t cs i

-- p is the place of the first card of a row that may not be played
pub record Stops (t : Table) (cs : List ℕ) (p : ℕ) : Type 0 where
  pub there : p < length cs
  pub here : Fits t cs p → ⊥
  pub before : (i : ℕ) → i < p → Fits t cs i

-- nobody at the table has a card
abbrev pub Nobody : Table → Type 0
Nobody t = (p c : ℕ) → p < 4 → t.hand p c ≡ false

-- card c is one, in the hand of who is to play
abbrev pub Holds : Table → ℕ → Type 0
Holds t c = (c < deck) × (t.hand (turn t) c ≡ true)

-- the suit of the first card of the trick
abbrev pub led : Table → ℕ
led t = suit (slice_index t.trick 0)

-- who is to play holds card c, of another suit than the one led, and has a card of that suit
pub record Revokes (t : Table) (c : ℕ) : Type 0 where
  pub held : Holds t c
  pub lies : 0 < length t.trick
  pub other : suit c ≡ led t → ⊥
  pub could : (d : ℕ) × Holds t d × (suit d ≡ led t)

-- n is the number of the refusal of card c at table t
pub data Why (t : Table) (c : ℕ) : ℕ → Type 0 where
  after_last : Nobody t → Why t c 9
  not_held : (Nobody t → ⊥) → (Holds t c → ⊥) → Why t c 7
  revokes : Revokes t c → Why t c 8

-- the plays are those of the row, each by who was to play at its table, with who took the trick that it ended
pub record PlaysOf (t : Table) (cs : List ℕ) (ns : List Noted) : Type 0 where
  pub many : length ns ≡ length cs
  pub each : (i : ℕ) → i < length cs → (d : Noted) → slice_index_or ns i d ≡ noted (table_at t cs i) (card_at cs i)

-- an answer to a row at a table, with so many places for plays, is right:
-- it is 11 at 1 exactly if these are fewer than the cards left. Else the row is taken exactly if each card may be played where it stands,
-- and then with its plays and the table after them; and it is refused exactly at the first card that may not be played, and for what is wrong with it
pub record Right (t : Table) (places : ℕ) (cs : List ℕ) (o : Outcome) : Type 0 where
  pub short : o ≡ refuses 11 1 → places < cards_left t
  pub shorts : places < cards_left t → o ≡ refuses 11 1
  pub taken : (ns : List Noted) (u : Table) → o ≡ played ns u → (cards_left t ≤ places) × AllFit t cs × (u ≡ table_at t cs (length cs)) × PlaysOf t cs ns
  pub takes : cards_left t ≤ places → AllFit t cs → (ns : List Noted) × (o ≡ played ns (table_at t cs (length cs))) × PlaysOf t cs ns
  pub refused : (n p : ℕ) → o ≡ refuses n p → (n ≢ 11) → (cards_left t ≤ places) × Stops t cs p × Why (table_at t cs p) (card_at cs p) n
  pub refuses_first : cards_left t ≤ places → (n p : ℕ) → Stops t cs p → Why (table_at t cs p) (card_at cs p) n → o ≡ refuses n p
