use Rattle.worth.proofs.MoveLaws.{after_under}
use Rattle.claims.proofs.replies.reply_to.Goals as goal

pub next_failing-reply-requires : goal.next_failing-reply-requires
next_failing-reply-requires c = after_under c.args.board.now c.args.card.number c.in_ok-played.played c.in_ok-played.ensures _ c.requires
