-- The lowest of equal cards are enough for the search. Assumes nothing.
use Rattle.std.proofs.Common.{◌≡◌, ℕ, Bool, true, sym}
use Rattle.cards.specs.Table.{Table, Sound}
use Rattle.tricks.specs.Rules.{may, after}
use Rattle.tricks.specs.Statements.{left_after}
use Rattle.tricks.proofs.Stays.{keeps_sound}
use Rattle.equals.specs.Equals.{AsGoodAs}
use Rattle.equals.specs.Serves.{Serves}
use Rattle.worth.specs.Value.{worth_of}
use Rattle.worth.specs.Search.{Enough}
use Rattle.worth.proofs.ValueLaws.{value_is_worth, worth_is, skipping}

-- after equal cards the worth is the same
equal_worth : (t : Table) (n c d : ℕ) → Sound t n → may t c ≡ true → may t d ≡ true → AsGoodAs t c d → worth_of (after t d) ≡ worth_of (after t c)
equal_worth t n c d s mc md good =
    worth_is (after t c) (left_after t n) (worth_of (after t d)) (keeps_sound t n c s mc) (good.back (worth_of (after t d)) (value_is_worth (after t d) (left_after t n) (keeps_sound t n d s md)))

pub serving_enough : (t : Table) (n : ℕ) (set : ℕ → Bool) → Sound t n → Serves t set → Enough t n set
serving_enough t n set s serves = record {
  legal = serves.legal;
  best = skipping set t n serves.legal (λ d m. let (c, in-set, low, good) = serves.each d m in (c, in-set, sym good.gain, equal_worth t n c d s (serves.legal c in-set) m good));
}
