-- The suit led, and what goes on it. Assumes nothing: these are definitions.
use Rattle.std.specs.Prelude.{ℕ, Bool, true, not, ◌||◌, List, [], ◌∷◌, Some, None, Option, ◌==◌}
use Rattle.cards.specs.Table.{deck, suit, has_suit}
use Rattle.cards.specs.Numbers.{suit_number}
use Rattle.cards.specs.declared.card.Suit.{Suit}

-- a suit by its number
abbrev pub suit_told : Option Suit → Option ℕ
suit_told None = None
suit_told (Some s) = Some (suit_number s)

-- the suit of the first card of a trick
abbrev pub led_suit : List ℕ → Option ℕ
led_suit [] = None
led_suit (c ∷ cs) = Some (suit c)

-- does a card of a hand go on the suit led: it is of that suit, or the hand has none of it
abbrev pub goes : (ℕ → Bool) → Option ℕ → ℕ → Bool
goes h None c = true
goes h (Some s) c = suit c == s || not (has_suit h s deck)
