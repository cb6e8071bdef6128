use Rattle.std.proofs.Common.{Ok, Err, Option, sym, refl, ap, ◌∙◌, subst, arith, rules}
use Rattle.std.proofs.lemmas.Result.{err_from_is_err_and}
use Rattle.cards.specs.Few.{listed}
use Rattle.cards.specs.Seen.{seen, tricks_left}
use Rattle.cards.proofs.Order.{in_order}
use Rattle.referee.proofs.CardsLaws.{few_cards}
use Rattle.claims.specs.Sides.{is_ours}
use Rattle.claims.specs.PlayOn.{own_card}
use Rattle.claims.specs.Nexts.{NextTold, CourseTold}
use Rattle.claims.specs.declared.play_on.Next.{Next}
use Rattle.claims.proofs.NextLaws.{way_goes, way_over, way_refused, Goes_on}
use Rattle.claims.proofs.play_on.course_from.Goals as goal
use Rattle.claims.proofs.play_on.course_from.Goals.{In-Some}

-- the card that was played next
goes : (c : In-Some) → Goes_on (is_ours c.args.side) (seen c.args.board.now) c.args.row.now (listed c.loop-next.course) c.loop-next.used (seen c.loop-next.table) c.loop-next.invariant.way c.in-Some.next
goes c =
    let b = c.args.board.now in
    let u = c.loop-next.table in
    let own = own_card (is_ours c.args.side) (seen u) in
    let next = subst (λ (o : Option Next). NextTold own (seen u) c.args.row.now c.loop-next.used (Ok o)) c.in-Some.is c.in_ok-next.ensures.next in
    way_goes _ _ _ _ _ _ c.loop-next.invariant.way (tricks_left u) (in_order u).sound (few_cards (seen b) (tricks_left b) (in_order b)) own refl c.in-Some.next next

pub unwrap-requires : goal.unwrap-requires
unwrap-requires c = c.push.ensures.room.1 (goes (goal.at.unwrap-requires c).In-Some).place

pub loop-next-smaller : goal.loop-next-smaller
loop-next-smaller c = (goes (goal.at.loop-next-smaller c).In-Some).falls

pub loop-next-preserved : goal.loop-next-preserved
loop-next-preserved c = record { way = (goes (goal.at.loop-next-preserved c).In-Some).way _ (rw c.unwrap.ensures at c.push.ensures.ok); same = search rules }

pub returns-in_err-next-clause-course : goal.returns-in_err-next-clause-course
returns-in_err-next-clause-course c =
    let (e, is, same) = err_from_is_err_and c.from_residual.result c.from_residual.ensures.1 in
    let u = c.loop-next.table in
    let bad = way_refused _ _ _ _ _ _ c.loop-next.invariant.way (tricks_left u) (in_order u).sound _ refl c.in_err-next.field-0.0 c.in_err-next.ensures.next in
    subst (CourseTold (is_ours c.args.side) (seen c.args.board.now) c.args.row.now) (sym (is ∙ ap Err same)) bad

pub returns-clause-course : goal.returns-clause-course
returns-clause-course c =
    let u = c.loop-next.table in
    let own = own_card (is_ours c.args.side) (seen u) in
    let next = subst (λ (o : Option Next). NextTold own (seen u) c.args.row.now c.loop-next.used (Ok o)) c.in_default.is c.in_ok-next.ensures.next in
    record { few = omega (arith, c.loop-next.invariant.way.left); runs = way_over _ _ _ _ _ _ c.loop-next.invariant.way (tricks_left u) (in_order u).sound own refl next }
