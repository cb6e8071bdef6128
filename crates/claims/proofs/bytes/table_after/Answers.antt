use Rattle.std.proofs.Common.{Err, sym, refl, ap, ◌∙◌, subst}
use Rattle.std.proofs.lemmas.Result.{err_from_is_err_and}
use Rattle.claims.specs.Bytes.{TableTold}
use Rattle.claims.proofs.BytesLaws.{table_told, table_refused}
use Rattle.claims.proofs.bytes.table_after.Goals as goal

pub returns-in_err-deal : goal.returns-in_err-deal
returns-in_err-deal c =
    let (e, is, same) = err_from_is_err_and c.from_residual.result c.from_residual.ensures.1 in
    subst (TableTold c.args.bytes.now c.args.room) (sym (is ∙ ap Err same)) (table_refused c.args.bytes.now c.args.room c.in_err-deal.field-0.0 c.in_err-deal.ensures.first)

pub returns : goal.returns
returns c =
    table_told c.args.bytes.now c.args.room c.in_ok-deal.deal c.in_ok-deal.ensures.first _ c.rest_from.ensures _ _ refl c.play_row.result c.play_row.ensures.value c.play_row.ensures.right
