use Rattle.std.proofs.Common.{◌≡◌, None}
use Rattle.cards.specs.Deal.{byte, start_of, first, fault, uneven, share}
use Rattle.cards.proofs.reader.check_shares.Given as goal

abbrev pub invariant-loop-p : goal.invariant-loop-p
invariant-loop-p l = first (λ p. fault (uneven (share l.layout.bytes.now p) (share l.layout.bytes.now (byte l.layout.bytes.now 1))) (start_of l.layout.bytes.now p)) l.p ≡ None
