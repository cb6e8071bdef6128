use Rattle.std.proofs.Common.{ap, ◌∙◌}
use Rattle.cards.specs.Table.{deck}
use Rattle.cards.specs.Bits.{bit}
use Rattle.cards.specs.Seen.{seen}
use Rattle.cards.proofs.BitLaws.{bit_past}
use Rattle.tricks.specs.Led.{suit_told}
use Rattle.tricks.proofs.MayLaws.{may_is}
use Rattle.tricks.proofs.legal.playable.Goals as goal

pub returns : goal.returns
returns c x =
    let hand = c.hand_to_play.result in
    c.playable_of.ensures x
    ∙ may_is (seen c.args.board.now) (bit hand.bits) (suit_told c.led.result) x (ap bit c.hand_to_play.ensures) c.led.ensures
    (λ l. bit_past hand.bits x deck hand.low l)
