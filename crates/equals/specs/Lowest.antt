-- The lowest of the cards that are as good as each other. Assumes nothing: these are definitions.
use Rattle.std.specs.Prelude.{ℕ, zero, suc, Bool, true, false, not, ◌&&◌, ◌||◌, ◌==◌, nat_lt}
use Rattle.cards.specs.Table.{Table, deck, suit}
use Rattle.tricks.specs.Rules.{turn, may}
use Rattle.equals.specs.Equals.{in_play}

-- has the player to play each of the first n cards that lies between c and d and is in play
unfoldable pub own_between : Table → ℕ → ℕ → ℕ → Bool
own_between t c d zero = true
own_between t c d (suc n) = (not (nat_lt c n && nat_lt n d) || (not (in_play t n) || t.hand (turn t) n)) && own_between t c d n

-- are two cards, c below d, as good as each other by the rule: they are of one suit, and the player to play has each card between them that is in play
abbrev pub twins : Table → ℕ → ℕ → Bool
twins t c d = suit c == suit d && own_between t c d deck

-- is one of the first n cards, which may be played, a twin of d
unfoldable pub twin_among : Table → ℕ → ℕ → Bool
twin_among t d zero = false
twin_among t d (suc n) = (may t n && twins t n d) || twin_among t d n

-- may card d be played, and is no lower card that may be played as good by the rule
abbrev pub lowest : Table → ℕ → Bool
lowest t d = may t d && not (twin_among t d d)
