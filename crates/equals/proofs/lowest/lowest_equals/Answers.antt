use Rattle.std.proofs.Common.{◌≡◌, ℕ, Bool, not, ◌&&◌, ap, ◌∙◌}
use Rattle.cards.specs.Bits.{bit}
use Rattle.cards.specs.Seen.{seen, tricks_left}
use Rattle.cards.proofs.Order.{in_order}
use Rattle.equals.specs.Lowest.{lowest}
use Rattle.equals.specs.Covered.{covered}
use Rattle.equals.proofs.LowestLaws.{lowest_is, lowest_serve}
use Rattle.equals.proofs.lowest.lowest_equals.Goals as goal

pub returns : goal.returns
returns c =
    let b = c.args.board.now in
    let sound = (in_order b).sound in
    let own = bit c.on.result.own.bits in
    let play = bit c.on.result.all.bits in
    let set : (x : ℕ) → bit c.uncovered.result.bits x ≡ lowest (seen b) x = λ x.
    c.uncovered.ensures x
    ∙ ap (λ (m : Bool). m && not (covered own play x)) (c.playable.ensures x)
    ∙ lowest_is (seen b) (tricks_left b) sound own play (ap bit c.on.ensures.own) c.on.ensures.all x in
    record { set = set; serves = lowest_serve (seen b) (tricks_left b) sound (bit c.uncovered.result.bits) set }
