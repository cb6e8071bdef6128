use Rattle.std.proofs.Common.{Bool, not, ◌&&◌, ap, ◌∙◌}
use Rattle.cards.specs.Bits.{bit}
use Rattle.cards.specs.Seen.{seen, tricks_left}
use Rattle.cards.proofs.Order.{in_order}
use Rattle.equals.specs.Covered.{covered}
use Rattle.equals.proofs.LowestLaws.{lowest_is}
use Rattle.equals.proofs.lowest.is_lowest.Goals as goal

pub returns : goal.returns
returns c =
    let b = c.args.board.now in
    let x = c.args.card.number in
    let own = bit c.on.result.own.bits in
    let play = bit c.on.result.all.bits in
    c.leaves.ensures
    ∙ ap (λ (m : Bool). m && not (covered own play x)) (c.playable.ensures x)
    ∙ lowest_is (seen b) (tricks_left b) (in_order b).sound own play (ap bit c.on.ensures.own) c.on.ensures.all x
