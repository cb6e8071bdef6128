use Rattle.std.proofs.Common.{ℕ, ◌+◌, eqb, drop, Ok, Err, sym, refl, ap, ◌∙◌, subst}
use Rattle.std.proofs.lemmas.Result.{err_from_is_err_and}
use Rattle.cards.specs.Deal.{byte}
use Rattle.claims.specs.SideBytes.{SideTold}
use Rattle.claims.specs.Bytes.{PlayFault, playing_room, at_start, PlayTold}
use Rattle.claims.proofs.BytesLaws.{deal_taken, start_refused, side_refused, side_known, input_played}
use Rattle.claims.proofs.bytes.play_bytes.Goals as goal

pub returns-in_err-deal : goal.returns-in_err-deal
returns-in_err-deal c =
    let (e, is, same) = err_from_is_err_and c.from_residual.result c.from_residual.ensures.1 in
    let bs = c.args.bytes.now in
    let plays = c.args.plays.now in
    let keys = c.args.positions.now in
    let worths = c.args.worths.now in
    let room = playing_room c.args.cards plays keys worths in
    subst (PlayTold bs room plays plays keys worths keys worths) (sym (is ∙ ap Err same)) (at_start (start_refused bs room c.in_err-deal.field-0.0 c.in_err-deal.ensures.first) refl refl, refl)

pub returns-in_err-side : goal.returns-in_err-side
returns-in_err-side c =
    let (e, is, same) = err_from_is_err_and c.from_residual-in_err-side.result c.from_residual-in_err-side.ensures.1 in
    let bs = c.args.bytes.now in
    let plays = c.args.plays.now in
    let keys = c.args.positions.now in
    let worths = c.args.worths.now in
    let room = playing_room c.args.cards plays keys worths in
    let deal = c.in_ok-deal.ensures in
    let refused = side_refused bs room c.in_ok-deal.deal deal.first c.in_err-side.field-0.0 (subst (λ (b : ℕ). SideTold b (Err c.in_err-side.field-0.0)) c.byte_at.ensures c.in_err-side.ensures) in
    subst (PlayTold bs room plays plays keys worths keys worths) (sym (is ∙ ap Err same)) (at_start refused refl refl, refl)

pub returns : goal.returns
returns c =
    let bs = c.args.bytes.now in
    let d = c.in_ok-deal.deal in
    let taken = c.in_ok-deal.ensures.first in
    let room = playing_room c.args.cards c.args.plays.now c.args.positions.now c.args.worths.now in
    let (low, side) = subst (λ (b : ℕ). SideTold b (Ok c.in_ok-side.side)) c.byte_at.ensures c.in_ok-side.ensures in
    let (_, table, size) = deal_taken (PlayFault bs room) bs d taken in
    input_played bs room c.args.plays.now c.play_on.new.plays c.args.positions.now c.args.worths.now c.play_on.new.positions c.play_on.new.worths refl refl refl (side_known bs room d taken low)
    _ _ _ (side ∙ ap (λ (k : ℕ). eqb (byte bs k) 0) size) table (c.rest_from-row.ensures ∙ ap (λ (k : ℕ). drop (k + 1) bs) size) c.play_on.result c.play_on.ensures
