-- What holds of the worth of a table: statements, types whose proofs are owed. Assumes nothing: these are definitions.
use Rattle.std.specs.Prelude.{◌≡◌, ℕ, ◌+◌, ◌-◌, ◌%◌, ◌≤◌}
use Rattle.cards.specs.Table.{Table, Sound}
use Rattle.tricks.specs.Plays.{Takes, Worth}
use Rattle.worth.specs.Value.{worth_of}

-- every sound table has a worth, at most the tricks left, and only one
abbrev pub OneWorth : Type 0
OneWorth = (t : Table) (n : ℕ) → Sound t n → (v : ℕ) × Worth t v × (v ≤ n) × ((w : ℕ) → Worth t w → w ≡ v)

-- who can take more can take fewer
abbrev pub Fewer : Type 0
Fewer = (t : Table) (k j : ℕ) → j ≤ k → Takes k t → Takes j t

-- our side takes at most as many tricks as are left
abbrev pub AtMost : Type 0
AtMost = (t : Table) (n k : ℕ) → Sound t n → Takes k t → k ≤ n

-- the table with the seats turned by one, so that our side is the others
abbrev pub seen_by_others : Table → Table
seen_by_others t = record { trump = t.trump; hand = λ p c. t.hand ((p + 1) % 4) c; leader = (t.leader + 3) % 4; trick = t.trick }

-- the worths for the two sides are together the tricks left
abbrev pub BothSides : Type 0
BothSides = (t : Table) (n v w : ℕ) → Sound t n → Worth t v → Worth (seen_by_others t) w → v + w ≡ n

-- the worth for the others is what our side's leaves of the tricks
abbrev pub OtherSide : Type 0
OtherSide = (t : Table) (n v : ℕ) → Sound t n → Worth t v → Worth (seen_by_others t) (n - v)

-- the value of a table, card by card, is its worth, over whole plays
abbrev pub ValueIsWorth : Type 0
ValueIsWorth = (t : Table) (n : ℕ) → Sound t n → Worth t (worth_of t)
