use Rattle.std.proofs.Common.{ℕ, take, Ok, Err, sym, refl, ap, ◌∙◌, subst}
use Rattle.std.proofs.lemmas.Result.{err_from_is_err_and}
use Rattle.claims.specs.Claimed.{Claimed}
use Rattle.claims.specs.Bytes.{TableTold, judging_room, before, InputTold}
use Rattle.claims.proofs.BytesLaws.{claim_refused, input_told}
use Rattle.claims.proofs.bytes.judge_bytes.Goals as goal

pub returns-in_err-board : goal.returns-in_err-board
returns-in_err-board c =
    let (e, is, same) = err_from_is_err_and c.from_residual.result c.from_residual.ensures.1 in
    let bs = c.args.bytes.now in
    let keys = c.args.positions.now in
    let worths = c.args.worths.now in
    let room = judging_room c.args.cards keys worths in
    let refused = subst (λ (n : ℕ). TableTold (take n bs) room (Err c.in_err-board.field-0.0)) c.ending_of-end.ensures.before c.in_err-board.ensures in
    subst (InputTold bs room keys worths keys worths) (sym (is ∙ ap Err same)) (before refused, refl, refl)

pub returns-in_err-claim : goal.returns-in_err-claim
returns-in_err-claim c =
    let (e, is, same) = err_from_is_err_and c.from_residual-in_err-claim.result c.from_residual-in_err-claim.ensures.1 in
    let bs = c.args.bytes.now in
    let b = c.in_ok-board.board in
    let keys = c.args.positions.now in
    let worths = c.args.worths.now in
    let room = judging_room c.args.cards keys worths in
    let table = subst (λ (n : ℕ). TableTold (take n bs) room (Ok b)) c.ending_of-end.ensures.before c.in_ok-board.ensures in
    let no = c.in_err-claim.ensures in
    subst (InputTold bs room keys worths keys worths) (sym (is ∙ ap Err same)) (
      claim_refused bs room b table.0 table.1 c.ending_of-end.result.side c.ending_of-end.result.tricks c.tricks_left.result c.ending_of-end.ensures.side c.ending_of-end.ensures.tricks c.tricks_left.ensures c.in_err-claim.field-0.0 no,
      refl,
      refl,
    )

pub returns : goal.returns
returns c =
    let bs = c.args.bytes.now in
    let b = c.in_ok-board.board in
    let room = judging_room c.args.cards c.args.positions.now c.args.worths.now in
    let (stands, is) = subst (λ (n : ℕ). TableTold (take n bs) room (Ok b)) c.ending_of-end.ensures.before c.in_ok-board.ensures in
    let made = subst (λ (n : ℕ). Claimed c.ending_of-end.result.side c.ending_of-end.result.tricks n (Ok c.in_ok-claim.claim)) c.tricks_left.ensures c.in_ok-claim.ensures in
    input_told c.ending_of-end.result.side c.ending_of-end.result.tricks b c.in_ok-claim.claim made c.args.positions.now c.args.worths.now c.judge.new.positions c.judge.new.worths bs room
    c.ending_of-end.ensures.side c.ending_of-end.ensures.tricks refl refl stands is c.judge.result c.judge.ensures
