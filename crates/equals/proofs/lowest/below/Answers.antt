use Rattle.std.proofs.Common.{ℕ, ◌%◌, ap, ◌∙◌, arith}
use Rattle.std.proofs.lemmas.Nat.{one_shl}
use Rattle.cards.specs.Bits.{bit}
use Rattle.equals.proofs.TopLaws.{bit_low}
use Rattle.equals.proofs.lowest.below.Goals as goal

pub returns : goal.returns
returns c x =
    let n = c.args.card.number in
    ap (λ (m : ℕ). bit (c.args.cards.bits % m) x) (one_shl n 64 (omega (arith, c.args.card.low))) ∙ bit_low c.args.cards.bits n x
