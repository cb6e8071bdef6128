use Rattle.std.proofs.Common.{◌≡◌, ℕ, take}
use Rattle.cards.specs.Bits.{bit}
use Rattle.cards.specs.Hands.{numbers}
use Rattle.equals.specs.Equals.{on}
use Rattle.equals.proofs.in_play.on_table.Given as goal

-- the cards so far
abbrev pub invariant-loop-card : goal.invariant-loop-card
invariant-loop-card l = (x : ℕ) → bit l.lying.bits x ≡ on x (numbers (take l.card-index l.card-items))
