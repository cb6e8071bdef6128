use Rattle.std.proofs.Common.{sym, ◌∙◌}
use Rattle.cards.specs.Seen.{seen, tricks_left}
use Rattle.claims.specs.Claimed.{claims_side, claims_tricks}
use Rattle.claims.proofs.JudgeLaws.{judged_upheld, judged_replies, judged_fails}
use Rattle.claims.proofs.judge.judge_under.Goals as goal

pub returns-then-upholds-clause-judged : goal.returns-then-upholds-clause-judged
returns-then-upholds-clause-judged c =
    let b = c.args.board.now in
    judged_upheld (claims_side c.args.claim) (tricks_left b) (claims_tricks c.args.claim) (seen b) _ _ c.tricks_left-left.ensures c.worth_under-worth.ensures.worth _
    (sym c.upholds.ensures ∙ c.if-upholds.true) c.advice_under-card.ensures.card

pub returns-then-is_claimers_turn-clause-judged : goal.returns-then-is_claimers_turn-clause-judged
returns-then-is_claimers_turn-clause-judged c =
    let b = c.args.board.now in
    judged_replies (claims_side c.args.claim) (tricks_left b) (claims_tricks c.args.claim) (seen b) _ _ c.tricks_left-left.ensures c.worth_under-worth.ensures.worth _
    (sym c.upholds.ensures ∙ c.if-upholds.false) (sym c.is_claimers_turn.ensures ∙ c.if-is_claimers_turn.true) c.replies_under-replies.ensures.replies

pub returns-clause-judged : goal.returns-clause-judged
returns-clause-judged c =
    let b = c.args.board.now in
    judged_fails (claims_side c.args.claim) (tricks_left b) (claims_tricks c.args.claim) (seen b) _ _ c.tricks_left-left.ensures c.worth_under-worth.ensures.worth _
    (sym c.upholds.ensures ∙ c.if-upholds.false) (sym c.is_claimers_turn.ensures ∙ c.if-is_claimers_turn.false) c.failing_under-card.ensures.card
