-- What comes of a row of cards at a table. Assumes nothing: these are definitions.
use Rattle.std.specs.Prelude.{ℕ, suc, Bool, List, [], ◌∷◌, ◌==◌, nat_lt}
use Rattle.cards.specs.Table.{Table, pick, deck, count, cards_left}
use Rattle.tricks.specs.Rules.{turn, may, after}
use Rattle.referee.specs.Plays.{Noted, noted}

-- the number of the refusal of card c, by the hand of who is to play: it has no card; it has this one; it has it not
abbrev pub why_by : (ℕ → Bool) → ℕ → ℕ
why_by h c = pick (count h deck == 0) 9 (pick (h c) 8 7)

abbrev pub why : Table → ℕ → ℕ
why t c = why_by (t.hand (turn t)) c

-- an answer: the plays and the table after them, or the number of a refusal and a place
pub data Outcome : Type 0 where
  played : List Noted → Table → Outcome
  refuses : ℕ → ℕ → Outcome

-- the same with a play before
abbrev pub noting : Noted → Outcome → Outcome
noting n (played ns t) = played (n ∷ ns) t
noting n (refuses k p) = refuses k p

-- card by card, where the next stands at place i: the first that may not be played is refused
unfoldable pub row : Table → ℕ → List ℕ → Outcome
row t i [] = played [] t
row t i (c ∷ cs) = pick (may t c) (noting (noted t c) (row (after t c) (suc i) cs)) (refuses (why t c) i)

-- the row, with so many places for plays: they have to suffice for all cards that are left
abbrev pub refereed : Table → ℕ → List ℕ → Outcome
refereed t places cs = pick (nat_lt places (cards_left t)) (refuses 11 1) (row t 0 cs)
