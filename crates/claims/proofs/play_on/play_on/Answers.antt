use Rattle.std.proofs.Common.{◌≤◌, length, Err, sym, refl, ap, ◌∙◌, subst, arith, rules}
use Rattle.std.proofs.lemmas.Result.{err_from_is_err_and}
use Rattle.std.proofs.lemmas.Bool.{not-true, not-false, ltb-true, ltb-false}
use Rattle.cards.specs.Table.{cards_left}
use Rattle.cards.specs.Seen.{seen, tricks_left}
use Rattle.cards.proofs.Order.{in_order}
use Rattle.claims.specs.Sides.{is_ours}
use Rattle.claims.specs.PlayOn.{Runs}
use Rattle.claims.specs.PlayedOn.{no_places, no_slots, bad_card, PlayOnTold}
use Rattle.claims.proofs.LineToldLaws.{never_refused, line_told}
use Rattle.claims.proofs.play_on.play_on.Goals as goal

pub returns-then-not-has_places : goal.returns-then-not-has_places
returns-then-not-has_places c = (no_places (ltb-true _ _ (not-false _ (sym c.if-not-has_places.ensures))) refl refl, refl)

pub returns-in_err-prepare : goal.returns-in_err-prepare
returns-in_err-prepare c =
    let (e, is, same) = err_from_is_err_and c.from_residual.result c.from_residual.ensures.1 in
    let roomy = ltb-false _ _ (not-true _ (sym c.if-not-has_places.ensures)) in
    let away = c.in_err-prepare.ensures in
    subst
    (PlayOnTold (is_ours c.args.side) (seen c.args.board.now) c.args.row.now c.args.plays.now c.args.plays.now c.args.positions.now c.args.worths.now _ _)
    (sym (is ∙ ap Err same)) (rw (away.number, away.place) (no_slots roomy away.lent away.same_keys away.same_worths), refl)

pub returns-in_err-course : goal.returns-in_err-course
returns-in_err-course c =
    let (e, is, same) = err_from_is_err_and c.from_residual-in_err-course.result c.from_residual-in_err-course.ensures.1 in
    let roomy = ltb-false _ _ (not-true _ (sym c.if-not-has_places.ensures)) in
    let bad = bad_card roomy c.in_ok-prepare.ensures.lent c.in_err-course.ensures.course (search rules) in
    subst
    (PlayOnTold (is_ours c.args.side) (seen c.args.board.now) c.args.row.now c.args.plays.now c.args.plays.now c.args.positions.now c.args.worths.now _ _)
    (sym (is ∙ ap Err same)) (bad, refl)

pub returns-in_err-table : goal.returns-in_err-table
returns-in_err-table c =
    let b = c.args.board.now in
    let side = is_ours c.args.side in
    let roomy = ltb-false _ _ (not-true _ (sym c.if-not-has_places.ensures)) in
    let runs = subst (Runs side (seen b) c.args.row.now) (sym c.as_slice.ensures) c.in_ok-course.ensures.course.runs in
    absurd (never_refused side (seen b) (tricks_left b) (in_order b).sound c.args.row.now _ runs c.args.plays.now c.play_row.new.plays roomy c.in_err-table.field-0.0 c.in_err-table.ensures.right)

pub returns : goal.returns
returns c =
    let b = c.args.board.now in
    let side = is_ours c.args.side in
    let is = c.in_ok-course.ensures.course in
    let roomy : cards_left (seen b) ≤ length c.args.plays.now = ltb-false _ _ (not-true _ (sym c.if-not-has_places.ensures)) in
    let told = c.in_ok-table.ensures in
    let runs = subst (Runs side (seen b) c.args.row.now) (sym c.as_slice.ensures) is.runs in
    line_told side (seen b) (tricks_left b) (in_order b).sound c.args.row.now _ runs c.args.plays.now c.play_row.new.plays roomy
    c.in_ok-table.table told.right _ _ _ _ c.in_ok-prepare.ensures.lent (search rules) told.value _ (ap length c.as_slice.ensures ∙ sym c.len.ensures.count) (omega (arith, is.few, c.len.ensures.count))
