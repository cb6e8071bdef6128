-- The numbers that suits, trumps and sides go by. Assumes nothing: these are definitions.
use Rattle.std.specs.Prelude.{ℕ}
use Rattle.cards.specs.declared.card.Suit.{Suit}
use Rattle.cards.specs.declared.card.Suit.TheVariants.{Clubs, Diamonds, Hearts, Spades}
use Rattle.cards.specs.declared.card.Trump.{Trump}
use Rattle.cards.specs.declared.card.Trump.TheVariants.{Of, NoTrump}
use Rattle.cards.specs.declared.player.Side.{Side}
use Rattle.cards.specs.declared.player.Side.TheVariants.{Ours, Others}

abbrev pub suit_number : Suit → ℕ
suit_number Clubs = 0
suit_number Diamonds = 1
suit_number Hearts = 2
suit_number Spades = 3

-- the suit's number, or 4 for no trump
abbrev pub trump_number : Trump → ℕ
trump_number (Of s) = suit_number s
trump_number NoTrump = 4

-- our side, players 0 and 2, or the others, 1 and 3
abbrev pub side_number : Side → ℕ
side_number Ours = 0
side_number Others = 1
