use Rattle.std.proofs.Common.{sym, ◌∙◌}
use Rattle.worth.proofs.PositionLaws.{true_read}
use Rattle.worth.proofs.positions.Positions.look_up.Goals as goal

pub returns-then-self-slot : goal.returns-then-self-slot
returns-then-self-slot c =
    let p = c.args.self.now in
    true_read p.root c.args.board.now p.keys.now p.worths.now c.slot-slot.result c.key-key.result p.kept c.slot-slot.ensures c.if-self-slot.true
    (record { under = c.requires; start = sym c.starts_trick.ensures ∙ c.if-not-starts_trick.false; key = c.key-key.ensures })
