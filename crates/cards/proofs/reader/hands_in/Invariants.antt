use Rattle.std.proofs.Common.{◌≡◌, None}
use Rattle.cards.specs.Hands.{bits_of}
use Rattle.cards.specs.Deal.{first, hand_fault}
use Rattle.cards.specs.Parts.{Dealt}
use Rattle.cards.proofs.reader.hands_in.Given as goal

abbrev pub invariant-loop-p : goal.invariant-loop-p
invariant-loop-p l = (first (hand_fault l.layout.bytes.now) l.p ≡ None) × Dealt l.layout.bytes.now l.p (bits_of l.hands) l.taken.bits
