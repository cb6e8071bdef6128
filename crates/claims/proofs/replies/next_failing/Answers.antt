use Rattle.std.proofs.Common.{Some, None, sym, refl, ap, ◌∙◌}
use Rattle.std.proofs.lemmas.Bool.{both_ways}
use Rattle.cards.specs.Seen.{seen, tricks_left}
use Rattle.equals.specs.Covered.{card_told}
use Rattle.worth.proofs.MoveLaws.{after_under}
use Rattle.worth.proofs.PositionLaws.{under_same}
use Rattle.claims.specs.Claimed.{claims_side, claims_tricks}
use Rattle.claims.specs.Failing.{failing}
use Rattle.claims.proofs.ReplyLaws.{rest_is, next_here, next_led, advice_legal}
use Rattle.claims.proofs.replies.next_failing.Goals as goal

pub returns-then-not-is_claimers_turn-clause-card : goal.returns-then-not-is_claimers_turn-clause-card
returns-then-not-is_claimers_turn-clause-card c =
    let b = c.args.board.now in
    let side = claims_side c.args.claim in
    let k = claims_tricks c.args.claim in
    c.failing_under.ensures.card
    ∙ sym (next_here side (tricks_left b) k (seen b) (sym c.is_claimers_turn.ensures ∙ c.if-not-is_claimers_turn.true))

pub returns-in_err-lead-clause-card : goal.returns-in_err-lead-clause-card
returns-in_err-lead-clause-card c =
    let b = c.args.board.now in
    ap card_told c.from_residual.ensures
    ∙ sym (next_led (claims_side c.args.claim) (tricks_left b) (claims_tricks c.args.claim) (seen b) None (sym c.is_claimers_turn.ensures ∙ c.if-not-is_claimers_turn.false) c.in_err-lead.ensures.card)

-- the card advised may be played
pub returns-in_err-led-clause-card : goal.returns-in_err-led-clause-card
returns-in_err-led-clause-card c =
    absurd (both_ways _ c.in_err-led.ensures (advice_legal (seen c.args.board.now) c.in_ok-lead.lead.number c.in_ok-lead.ensures.card))

pub failing_under-requires-2 : goal.failing_under-requires-2
failing_under-requires-2 c = under_same _ _ c.in_ok-lead.ensures.same _ (after_under c.args.board.now c.in_ok-lead.lead.number c.in_ok-led.led c.in_ok-led.ensures _ c.requires)

pub returns-clause-card : goal.returns-clause-card
returns-clause-card c =
    let b = c.args.board.now in
    let side = claims_side c.args.claim in
    let k = claims_tricks c.args.claim in
    let x = c.in_ok-lead.lead.number in
    c.failing_under-2.ensures.card
    ∙ rest_is failing b x c.in_ok-led.led c.in_ok-led.ensures side _ _ k _ _ refl c.claim_less-rest.ensures.side c.claim_less-rest.ensures.tricks c.taken.ensures
    ∙ sym (next_led side (tricks_left b) k (seen b) (Some x) (sym c.is_claimers_turn.ensures ∙ c.if-not-is_claimers_turn.false) c.in_ok-lead.ensures.card)
