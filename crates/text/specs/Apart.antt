-- That cards can be told by their text. Assumes nothing: these are definitions.
use Rattle.std.specs.Prelude.{◌≡◌, ℕ, ◌<◌}
use Rattle.cards.specs.Table.{deck}
use Rattle.text.specs.Cards.{card_text}

-- two different cards are shown differently
abbrev pub CardsApart : Type 0
CardsApart = (c d : ℕ) → c < deck → d < deck → card_text c ≡ card_text d → c ≡ d
