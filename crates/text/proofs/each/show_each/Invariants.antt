use Rattle.std.proofs.Common.{◌≡◌, ℕ, List, Some, take}
use Rattle.std.specs.Fmt.{IsPlainFormatter, HasWritten}
use Rattle.text.specs.Each.{each_after}
use Rattle.text.proofs.each.show_each.Given as goal

abbrev pub invariant-loop-item : goal.invariant-loop-item
invariant-loop-item g l =
    (text : g.row.T.Denot → List ℕ) → ((x : g.row.T.Denot) → g.bound-3.output (record { 0 = x }) ≡ Some (text x)) → IsPlainFormatter l.initial.f
    → HasWritten g.W.Write.write_str_gives l.initial.f (each_after l.separator text (take l.item-index l.items)) l.f
