-- Who takes the trick that a card ends, and what our side gains by it. Assumes nothing: these are definitions.
use Rattle.std.specs.Prelude.{ℕ, ◌%◌, [], ◌∷◌, ◌++◌, length, Some, None, Option, ◌==◌}
use Rattle.cards.specs.Table.{Table, pick, one}
use Rattle.cards.specs.declared.player.Player.{Player}
use Rattle.tricks.specs.Rules.{winner}

-- a player by its seat
abbrev pub taker_of : Option Player → Option ℕ
taker_of None = None
taker_of (Some p) = Some p.seat

-- who takes the trick that card c ends: none where it ends none
abbrev pub taken_by : Table → ℕ → Option ℕ
taken_by t c = pick (length t.trick == 3) (Some (winner t (t.trick ++ (c ∷ [])))) None

-- the tricks that our side gains where this player takes the trick
abbrev pub gain_of : Option ℕ → ℕ
gain_of None = 0
gain_of (Some p) = one (p % 2 == 0)

-- who leads next: who took the trick, else the leader of before
abbrev pub next_of : Option ℕ → ℕ → ℕ
next_of None leader = leader
next_of (Some p) leader = p
