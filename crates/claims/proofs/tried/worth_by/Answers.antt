use Rattle.std.proofs.Common.{Bool, Some, None, sym, refl, ap, ◌∙◌, arith}
use Rattle.cards.specs.Table.{pick}
use Rattle.cards.specs.Seen.{seen, tricks_left}
use Rattle.cards.proofs.Order.{in_order}
use Rattle.worth.proofs.MoveLaws.{after_under, after_worth, after_within}
use Rattle.claims.specs.Advice.{worth_by}
use Rattle.claims.proofs.tried.worth_by.Goals as goal

pub worth_under-rest-requires : goal.worth_under-rest-requires
worth_under-rest-requires c = after_under c.args.board.now c.args.card.number c.in_ok-played.played c.in_ok-played.ensures _ c.requires

pub in_all-requires : goal.in_all-requires
in_all-requires c =
    let b = c.args.board.now in
    omega (arith, (in_order b).few, after_within b c.args.card.number c.in_ok-played.played c.in_ok-played.ensures (tricks_left b) _ _ refl c.gain.ensures c.worth_under-rest.ensures.worth)

pub returns-clause-worth : goal.returns-clause-worth
returns-clause-worth c =
    let b = c.args.board.now in
    let x = c.args.card.number in
    let done = c.in_ok-played.ensures in
    ap Some (c.in_all.ensures ∙ after_worth b x c.in_ok-played.played done _ _ c.gain.ensures c.worth_under-rest.ensures.worth)
    ∙ sym (ap (λ (m : Bool). pick m (Some (worth_by (seen b) x)) None) done.legal)
