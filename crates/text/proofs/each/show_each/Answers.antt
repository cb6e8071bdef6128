use Rattle.std.proofs.Common.{take_all, refl}
use Rattle.std.proofs.Output.{has_written_append, has_written_of_eq}
use Rattle.text.proofs.EachLaws.{one_after}
use Rattle.text.proofs.each.show_each.Goals as goal

pub loop-item-preserved : goal.loop-item-preserved
loop-item-preserved g c = λ text is plain.
    let sofar = c.loop-item.invariant text is plain in
    has_written_of_eq _ _ _ _ _ (one_after c.args.separator.now text _ _ _ c.loop-item-test.true c.item-item.is)
    (has_written_append _ _ _ _ _ _ sofar ((rw is at c.in_ok-show_next.ensures) sofar.plain refl))

pub returns : goal.returns
returns g c = λ text is plain ok. rw (take_all _ _ c.loop-item-test.false) at c.loop-item.invariant text is plain
