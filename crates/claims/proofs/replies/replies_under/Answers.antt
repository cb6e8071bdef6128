use Rattle.std.proofs.Common.{rules}
use Rattle.cards.proofs.Order.{in_order}
use Rattle.claims.proofs.ReplyLaws.{row_none, row_skips, row_place, row_more}
use Rattle.claims.proofs.replies.replies_under.Goals as goal
use Rattle.claims.proofs.replies.replies_under.Goals.{in-Some, in_default}

pub loop-number-init : goal.loop-number-init
loop-number-init c = record { row = row_none _ _ _ _ _ (search rules); same = search rules }

-- there is a place for the reply to a card that may be played
pub unwrap-requires : goal.unwrap-requires
unwrap-requires c =
    c.push.ensures.room.1 (row_place _ _ _ _ _ _ c.nth_card.ensures _ c.loop-number.invariant.row (in_order c.args.board.now) c.nth_card.result.low c.in-Some.ensures.reply.0)

pub loop-number-preserved : goal.loop-number-preserved
loop-number-preserved c = elim c.match-reply_to.branch [
  | in-Some w ↦
      let (m, told) = w.in-Some.ensures.reply in
      let more = rw w.unwrap.ensures at w.push.ensures.ok in
      record { row = rw w.replies-is (row_more _ _ _ _ _ _ c.nth_card.ensures _ c.loop-number.invariant.row _ _ more m told); same = search rules }
  | in_default w ↦ record { row = rw w.replies-is (row_skips _ _ _ _ _ _ c.nth_card.ensures _ c.loop-number.invariant.row w.in_default.ensures.reply); same = search rules }
]
