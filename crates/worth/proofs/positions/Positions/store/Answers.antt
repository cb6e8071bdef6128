use Rattle.std.proofs.Common.{sym, ◌∙◌}
use Rattle.worth.proofs.PositionLaws.{true_store}
use Rattle.worth.proofs.positions.Positions.store.Goals as goal

pub invariant_of-self-clause-kept : goal.invariant_of-self-clause-kept
invariant_of-self-clause-kept c =
    let p = c.args.self.now in
    rw (c.put.ensures.keys, c.put.ensures.worths)
    (true_store p.root c.args.board.now p.keys.now p.worths.now c.slot-slot.result c.key-key.result c.args.worth p.kept c.slot-slot.ensures p.same
    (record { under = c.requires.under; start = sym c.starts_trick.ensures ∙ c.if-starts_trick.true; key = c.key-key.ensures }) c.requires.worth)
