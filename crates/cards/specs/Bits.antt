-- A set of cards as the bits of a number. Assumes nothing: these are definitions.
use Rattle.std.specs.Prelude.{ℕ, ◌/◌, ◌%◌, ◌^◌, Bool, ◌==◌}

-- is card c in the set h: bit c
abbrev pub bit : ℕ → ℕ → Bool
bit h c = h / 2 ^ c % 2 == 1
