use Rattle.std.proofs.Common.{get_or, refl, ap, ◌∙◌, ap₂, arith}
use Rattle.std.proofs.lemmas.Result.{err_from_is_err_and, IfOk-from_err}
use Rattle.cards.specs.Seen.{seen, tricks_left}
use Rattle.cards.specs.Refusals.{number_of, place_of}
use Rattle.cards.specs.declared.refusal.Refusal.{Refusal}
use Rattle.cards.proofs.Order.{in_order}
use Rattle.referee.specs.Row.{refuses}
use Rattle.referee.specs.Parts.{told_log}
use Rattle.referee.proofs.CardsLaws.{few_cards}
use Rattle.referee.proofs.LogLaws.{place_left, going_more, going_bad, going_all}
use Rattle.referee.proofs.row.log_row.Goals as goal

pub returns-in_err-next : goal.returns-in_err-next
returns-in_err-next c =
    let e = err_from_is_err_and c.from_residual.result c.from_residual.ensures.1 in
    let bad = c.in_err-next.ensures in
    record {
      answer = ap told_log e.1
          ∙ ap (λ (x : Refusal). refuses (number_of x) (place_of x)) e.2
          ∙ ap₂ refuses bad.number bad.at
          ∙ going_bad _ _ c.loop-place.place _ _ c.loop-place.invariant (get_or c.args.row.now c.loop-place.place 0) c.loop-place-test.true refl bad.illegal;
      many = IfOk-from_err c.from_residual.result _ c.from_residual.ensures.0;
      few = IfOk-from_err c.from_residual.result _ c.from_residual.ensures.0;
    }

-- there is a place for the play of a card that was played
pub unwrap-requires : goal.unwrap-requires
unwrap-requires c =
    let b = c.args.board.now in
    c.push.ensures.room.1 (place_left _ _ c.loop-place.place _ _ c.loop-place.invariant _ (few_cards (seen b) (tricks_left b) (in_order b)) c.in_ok-next.ensures.legal)

pub loop-place-preserved : goal.loop-place-preserved
loop-place-preserved c =
    let next = c.in_ok-next.ensures in
    going_more _ _ c.loop-place.place _ _ c.loop-place.invariant (get_or c.args.row.now c.loop-place.place 0) _ c.in_ok-next.next.play _ c.loop-place-test.true refl next.legal next.table next.note
    (rw c.unwrap.ensures at c.push.ensures.ok)

pub returns : goal.returns
returns c = record {
  answer = going_all _ _ c.loop-place.place _ _ c.loop-place.invariant (omega arith);
  many = omega (arith, c.loop-place.invariant.many);
  few = omega (arith, c.loop-place.invariant.left);
}
