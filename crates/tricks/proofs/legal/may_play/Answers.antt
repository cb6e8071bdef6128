use Rattle.std.proofs.Common.{ap, ◌∙◌, arith}
use Rattle.cards.specs.Bits.{bit}
use Rattle.cards.specs.Seen.{seen}
use Rattle.tricks.specs.Led.{suit_told}
use Rattle.tricks.proofs.MayLaws.{may_is}
use Rattle.tricks.proofs.legal.may_play.Goals as goal

pub returns : goal.returns
returns c =
    c.is_playable.ensures
    ∙ may_is (seen c.args.board.now) (bit c.hand_to_play.result.bits) (suit_told c.led.result) c.args.card.number (ap bit c.hand_to_play.ensures) c.led.ensures
    (λ l. absurd (omega (arith, c.args.card.low)))
