use Rattle.std.proofs.Common.{◌≡◌, ◌<◌, length, arith, rules}
use Rattle.tricks.specs.Taken.{taker_of}
use Rattle.tricks.proofs.AfterLaws.{board_is, order_after}
use Rattle.tricks.proofs.play.board_after.Goals as goal

pub invariant_of-result : goal.invariant_of-result
invariant_of-result c =
    let b = c.args.board.now in
    let x = c.args.card.number in
    let hands = c.hands_without-hands in
    let leader = c.next_leader in
    let lying = c.cards_on_table-lying.ensures in
    let trick = c.trick_with-trick in
    let played = c.played_after in
    let made = board_is b x _ _ _ hands.result leader.result trick.result (taker_of c.args.taker)
    c.turn.ensures hands.ensures c.requires.taker leader.ensures lying.cards lying.played trick.ensures played.ensures in
    let four : length hands.result ≡ 4 = search rules in
    let three : length trick.result ≡ 3 = search rules in
    let short : played.result < 4 = omega (arith, played.ensures) in
    record {
      seats = four;
      places = three;
      short = short;
      order = order_after b x b.trump hands.result leader.result trick.result played.result three short c.requires.legal made;
    }

pub returns : goal.returns
returns c =
    let hands = c.hands_without-hands in
    let leader = c.next_leader in
    let lying = c.cards_on_table-lying.ensures in
    let trick = c.trick_with-trick in
    board_is c.args.board.now c.args.card.number _ _ _ hands.result leader.result trick.result (taker_of c.args.taker)
    c.turn.ensures hands.ensures c.requires.taker leader.ensures lying.cards lying.played trick.ensures c.played_after.ensures
