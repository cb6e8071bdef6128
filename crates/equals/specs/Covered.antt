-- The next lower card in play, by which a card is seen to have a lower twin. Assumes nothing: these are definitions.
use Rattle.std.specs.Prelude.{ℕ, zero, suc, ◌+◌, ◌%◌, Bool, false, ◌&&◌, ◌||◌, Some, None, Option, ◌==◌, nat_lt}
use Rattle.cards.specs.Table.{Table, pick, deck, suit}
use Rattle.cards.specs.declared.card.Card.{Card}
use Rattle.tricks.specs.Rules.{turn}
use Rattle.equals.specs.Equals.{on}

-- has one of the three others card x, seen from player p: the next, the partner and the last
abbrev pub of_others : (ℕ → ℕ → Bool) → ℕ → ℕ → Bool
of_others hand p x = hand ((p + 1) % 4) x || (hand ((p + 2) % 4) x || hand ((p + 3) % 4) x)

-- is card x in play, seen from the player to play: its own, another's, or on the table
abbrev pub seen_in_play : Table → ℕ → Bool
seen_in_play t x = (t.hand (turn t) x || of_others t.hand (turn t) x) || on x t.trick

-- the highest of the first n cards that is in a set
unfoldable pub top : (ℕ → Bool) → ℕ → Option ℕ
top h zero = None
top h (suc n) = pick (h n) (Some n) (top h n)

-- of a set, the cards of d's suit that are lower than d
abbrev pub lower : (ℕ → Bool) → ℕ → ℕ → Bool
lower h d x = (h x && suit x == suit d) && nat_lt x d

-- a card by its number
abbrev pub card_told : Option Card → Option ℕ
card_told None = None
card_told (Some c) = Some c.number

-- is there a card, and in the set
abbrev pub is_in : (ℕ → Bool) → Option ℕ → Bool
is_in h None = false
is_in h (Some c) = h c

-- is the next lower card in play of d's suit an own one
abbrev pub covered : (ℕ → Bool) → (ℕ → Bool) → ℕ → Bool
covered own played d = is_in own (top (lower played d) deck)
