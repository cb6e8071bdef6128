-- What a search needs of a set of cards that stand for all that may be played. Assumes nothing: these are definitions.
use Rattle.std.specs.Prelude.{◌≡◌, ℕ, ◌<◌, ◌≤◌, Bool, true, false}
use Rattle.cards.specs.Table.{Table}
use Rattle.tricks.specs.Rules.{may}
use Rattle.equals.specs.Equals.{AsGoodAs}
use Rattle.equals.specs.Lowest.{twins}

-- the set has only cards that may be played; for each card that may be played it has one, not above it, that is as good; and no two of its cards are twins
pub record Serves (t : Table) (set : ℕ → Bool) : Type 0 where
  pub legal : (c : ℕ) → set c ≡ true → may t c ≡ true
  pub each : (d : ℕ) → may t d ≡ true → (c : ℕ) × (set c ≡ true) × (c ≤ d) × AsGoodAs t c d
  pub apart : (c d : ℕ) → c < d → set c ≡ true → set d ≡ true → twins t c d ≡ false
