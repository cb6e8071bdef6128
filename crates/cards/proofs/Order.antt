-- A table is in order in one way, so the truncation in a board's invariant comes off. Assumes nothing.
use Rattle.std.proofs.Common.{ℕ}
use mathlib.Core.Logic.{∥∥₁_elim}
use mathlib.Core.Bool.{Bool-set}
use native.Mathlib.Nat.{ℕ_set}
use native.Mathlib.Bridge.{le_prop}
use Rattle.cards.specs.Table.{Table, Sound, InOrder}
use Rattle.cards.specs.Seen.{seen, tricks_left}
use Rattle.cards.specs.declared.board.Board.{Board}

-- it is sound in one way, and so in order in one way
Sound-prop : (t : Table) (n : ℕ) → IsProp (Sound t n)
Sound-prop t n = hlevel (le_prop, ℕ_set, Bool-set)

InOrder-prop : (t : Table) (n : ℕ) → IsProp (InOrder t n)
InOrder-prop t n = hlevel (Sound-prop, le_prop, ℕ_set, Bool-set)

-- the table of a board is in order
pub in_order : (b : Board) → InOrder (seen b) (tricks_left b)
in_order b = ∥∥₁_elim b.order (InOrder-prop (seen b) (tricks_left b)) (λ x. x)
