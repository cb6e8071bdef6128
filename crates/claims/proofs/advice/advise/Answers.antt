use Rattle.std.proofs.Common.{rules}
use Rattle.cards.specs.Seen.{seen, tricks_left}
use Rattle.cards.proofs.Order.{in_order}
use Rattle.equals.specs.Covered.{card_told}
use Rattle.claims.proofs.AdviceLaws.{named}
use Rattle.claims.proofs.advice.advise.Goals as goal

pub returns : goal.returns
returns c =
    let b = c.args.board.now in
    record {
      lent = search rules;
      card = c.advice_under.ensures.card;
      named = named (seen b) (tricks_left b) (in_order b).sound (card_told c.advice_under.result) c.advice_under.ensures.card;
      kept = search rules;
    }
