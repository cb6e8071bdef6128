use Rattle.std.proofs.Common.{sym, ◌∙◌, rules}
use Rattle.cards.specs.Seen.{seen, tricks_left}
use Rattle.cards.proofs.Order.{in_order}
use Rattle.tricks.specs.Plays.{Worth}
use Rattle.worth.proofs.ValueLaws.{value_is_worth, worth_is, worth_low}
use Rattle.worth.proofs.call.worth.Goals as goal

pub returns : goal.returns
returns c =
    let b = c.args.board.now in
    let t = seen b in
    let n = tricks_left b in
    let sound = (in_order b).sound in
    let is = c.worth_under.ensures.worth in
    let w : Worth t c.worth_under.result = rw is (value_is_worth t n sound) in
    record {
      lent = search rules;
      takes = w.0;
      held = w.1;
      low = rw is (worth_low t n sound);
      only = λ x h. worth_is t n x sound h ∙ sym is;
      value = is;
      kept = search rules;
    }
