-- Cards and rows of cards as text, in bytes. Assumes nothing: these are definitions.
use Rattle.std.specs.Prelude.{ℕ, zero, suc, Bool, List, [], ◌∷◌, ◌++◌, Some, None, codes, Option, slice_index}
use Rattle.cards.specs.Table.{pick, deck, suit, rank}
use Rattle.text.specs.Each.{each_after}

-- a suit's letter, from clubs to spades
abbrev pub suit_text : ℕ → List ℕ
suit_text s = slice_index (codes "CDHS") s ∷ []

-- a rank's letter, from the two to the ace
abbrev pub rank_text : ℕ → List ℕ
rank_text r = slice_index (codes "23456789TJQKA") r ∷ []

-- a card: its suit, then its rank
abbrev pub card_text : ℕ → List ℕ
card_text c = suit_text (suit c) ++ rank_text (rank c)

-- what stands where there is no card
abbrev pub dash : List ℕ
dash = codes "-"

-- a card, or a dash where there is none
abbrev pub card_or_dash : Option ℕ → List ℕ
card_or_dash None = dash
card_or_dash (Some c) = card_text c

-- cards that stand after others, a space before each
abbrev pub more_cards : List ℕ → List ℕ
more_cards cs = each_after (codes " ") card_text cs

-- a row of cards with single spaces between them, or a dash for a row without cards
abbrev pub row_text : List ℕ → List ℕ
row_text [] = dash
row_text (c ∷ cs) = card_text c ++ more_cards cs

-- which of the first n cards a hand has, the highest first
unfoldable pub cards_below : (ℕ → Bool) → ℕ → List ℕ
cards_below h zero = []
cards_below h (suc n) = pick (h n) (n ∷ cards_below h n) (cards_below h n)

-- a hand: its cards from the ace of spades down to the two of clubs
abbrev pub hand_text : (ℕ → Bool) → List ℕ
hand_text h = row_text (cards_below h deck)
