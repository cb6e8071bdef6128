use Rattle.cards.specs.Table.{deck}
use Rattle.cards.specs.Bits.{bit}
use Rattle.equals.specs.Covered.{covered}
use Rattle.equals.proofs.SiftLaws.{sifted_all, fewer_left}
use Rattle.equals.proofs.TopLaws.{some_top, no_top}
use Rattle.equals.proofs.in_play.InPlay.uncovered.Goals as goal

pub loop-card-smaller : goal.loop-card-smaller
loop-card-smaller c =
    let left = c.loop-card.left.bits in
    let card = c.in-Some.card in
    fewer_left left c.without-left.result.bits card.number c.without-left.ensures card.low (some_top (bit left) deck card.number c.in-Some.ensures).there

pub returns : goal.returns
returns c =
    let left = c.loop-card.left in
    sifted_all c.args.cards.bits left.bits c.loop-card.found.bits (covered (bit c.args.self.own.bits) (bit c.args.self.all.bits)) c.loop-card.invariant left.low
    (no_top (bit left.bits) deck c.in_default.ensures)
