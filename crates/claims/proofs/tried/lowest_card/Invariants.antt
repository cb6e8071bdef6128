use Rattle.std.proofs.Common.{◌≡◌, ℕ, ◌<◌, true, false}
use Rattle.cards.specs.Seen.{seen}
use Rattle.tricks.specs.Rules.{may}
use Rattle.worth.specs.Lent.{SameSlots}
use Rattle.claims.specs.Advice.{worth_by}
use Rattle.claims.proofs.tried.lowest_card.Given as goal

abbrev pub invariant-loop-number : goal.invariant-loop-number
invariant-loop-number g l = record {
  before : (c : ℕ) → c < l.number → may (seen l.board) c ≡ true → goal.F-post g l.passes (worth_by (seen l.board) c) false;
  same : SameSlots l.fn.positions l.positions;
}
