use Rattle.std.proofs.Common.{◌≡◌, ◌+◌, None}
use Rattle.cards.specs.Hands.{held, numbers}
use Rattle.cards.specs.Deal.{first, fault, against}
use Rattle.cards.proofs.reader.check_suits.Given as goal

abbrev pub invariant-loop-i : goal.invariant-loop-i
invariant-loop-i l = first (λ i. fault (against (numbers l.fn.trick) (held l.hands) l.leader.seat i) (3 + i)) l.i ≡ None
