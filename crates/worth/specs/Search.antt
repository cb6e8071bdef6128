-- What the parts of the search hand on. Assumes nothing: these are definitions.
use Rattle.std.specs.Prelude.{◌≡◌, ℕ, ◌-◌, min, max, Bool, true, ◌&&◌, ◌||◌, Some, None, Option, ◌==◌, nat_lt}
use Rattle.cards.specs.Table.{Table, deck}
use Rattle.tricks.specs.Rules.{may}
use Rattle.worth.specs.Value.{best_below, worth_of}

-- a set of cards is enough to look at: each may be played, and the best of them is the best of all that may, of n tricks
pub record Enough (t : Table) (n : ℕ) (set : ℕ → Bool) : Type 0 where
  pub legal : (c : ℕ) → set c ≡ true → may t c ≡ true
  pub best : best_below set worth_of n t deck ≡ best_below (may t) worth_of n t deck

-- the tricks left, of n, once a card was played: one fewer if somebody took the trick
abbrev pub left_with : Option ℕ → ℕ → ℕ
left_with None n = n
left_with (Some p) n = n - 1

-- the number within low and high that is nearest to v
abbrev pub clamp : ℕ → ℕ → ℕ → ℕ
clamp low high v = max low (min high v)

-- is v, found within low and high, for sure the worth, of n tricks: at an end only where no worth is past it
abbrev pub exact : ℕ → ℕ → ℕ → ℕ → Bool
exact low high n v = (nat_lt low v || low == 0) && (nat_lt v high || high == n)
