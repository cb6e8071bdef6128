-- The plays of a line of play as text, in bytes. Assumes nothing: these are definitions.
use Rattle.std.specs.Prelude.{ℕ, ◌+◌, List, [], ◌∷◌, ◌++◌, Some, None, codes, decimal, Option}
use Rattle.referee.specs.Plays.{Noted}
use Rattle.text.specs.Cards.{card_text}

-- who played, and which card
abbrev pub play_line : Noted → List ℕ
play_line p = decimal p.player ++ (codes ": " ++ card_text p.card)

-- where a play ended a trick, a line after another: the trick's number, one above the n before it, and who took it
abbrev pub trick_line : ℕ → Option ℕ → List ℕ
trick_line n None = []
trick_line n (Some p) = codes "\n" ++ (decimal (n + 1) ++ (codes " trick: " ++ decimal p))

-- the tricks that have ended once this play was made after n
abbrev pub tricks_after : ℕ → Option ℕ → ℕ
tricks_after n None = n
tricks_after n (Some p) = n + 1

-- a play after n tricks
abbrev pub play_text : ℕ → Noted → List ℕ
play_text n p = play_line p ++ trick_line n p.taker

-- plays that stand after others and n tricks
abbrev pub more_plays : ℕ → List Noted → List ℕ
more_plays n [] = []
more_plays n (p ∷ ps) = (codes "\n" ++ play_text n p) ++ more_plays (tricks_after n p.taker) ps

-- a line of play: nothing where there is no play
abbrev pub plays_text : List Noted → List ℕ
plays_text [] = []
plays_text (p ∷ ps) = play_text 0 p ++ more_plays (tricks_after 0 p.taker) ps
