use Rattle.std.proofs.Common.{ℕ, sym, ap, ◌∙◌}
use Rattle.cards.specs.Table.{deck}
use Rattle.cards.specs.Bits.{bit}
use Rattle.cards.proofs.BitLaws.{bit_zero}
use Rattle.equals.proofs.TopLaws.{top_none, led_by_zeros}
use Rattle.equals.proofs.lowest.highest.Goals as goal

pub returns-then-cards-eq0 : goal.returns-then-cards-eq0
returns-then-cards-eq0 c = sym (top_none (bit c.args.cards.bits) deck (λ x l. ap (λ (a : ℕ). bit a x) c.if-cards-eq0.true ∙ bit_zero x))

pub invariant_of-result : goal.invariant_of-result
invariant_of-result c = record { low = (led_by_zeros c.args.cards.bits c.if-cards-eq0.false c.args.cards.low).card }

pub returns : goal.returns
returns c = (led_by_zeros c.args.cards.bits c.if-cards-eq0.false c.args.cards.low).is
