use Rattle.std.proofs.Common.{rules, ◌≡◌, None, sym, ap, ◌∙◌, arith}
use Rattle.cards.specs.Table.{Table}
use Rattle.cards.specs.Deal.{start_of, first, hand_fault, card_fault}
use Rattle.cards.specs.Reading.{accepts}
use Rattle.cards.proofs.DealLaws.{start_mono}
use Rattle.cards.proofs.BoardLaws.{cards_check, Read, hands_four, table_is, suits_same, kept}
use Rattle.cards.proofs.ReadLaws.{passes, board_refused, or_else_first, or_else_second}
use Rattle.cards.proofs.reader.board_in.Goals as goal
use Rattle.cards.proofs.reader.board_in.Goals.{In_ok-hands, After-trick_in-trick}

pub part-requires : goal.part-requires
unfolding start_of
part-requires c = search (rules, start_mono)

pub returns-in_err-lying : goal.returns-in_err-lying
returns-in_err-lying c follow room =
    board_refused _ 4 _ _ (card_fault c.args.layout.now.bytes.now) _ c.from_residual.ensures.1 c.in_err-lying.ensures.0
    (cards_check _ _ _ _ c.part.ensures c.empty.ensures c.requires.played ∙ or_else_first _ (first (hand_fault c.args.layout.now.bytes.now) 4) _ c.in_err-lying.ensures.1)

pub returns-in_err-hands : goal.returns-in_err-hands
returns-in_err-hands c follow room =
    board_refused _ 4 _ _ _ _ c.from_residual-in_err-hands.ensures.1 c.in_err-hands.ensures.0
    (cards_check _ _ _ _ c.part.ensures c.empty.ensures c.requires.played ∙ or_else_second _ _ _ c.in_ok-lying.ensures.0 c.in_err-hands.ensures.1)

-- cards that were gathered have no fault
cards_clean : (c : In_ok-hands) → card_fault c.args.layout.now.bytes.now ≡ None
cards_clean c = cards_check _ _ _ _ c.part.ensures c.empty.ensures c.requires.played ∙ or_else_second _ _ _ c.in_ok-lying.ensures.0 c.in_ok-hands.ensures.0

pub returns-in_err-check_shares : goal.returns-in_err-check_shares
returns-in_err-check_shares c follow room = search (rules, board_refused, passes, cards_clean)

-- what was read, before the check of the suits
read_so_far : (c : After-trick_in-trick) → card_fault c.args.layout.now.bytes.now ≡ None → Read c.args.layout.now.bytes.now c.args.trump c.in_ok-hands.hands c.args.layout.now.leader c.trick_in-trick.result c.args.played
read_so_far c clean = record {
  few = c.requires.few;
  whole = c.requires.whole;
  trumps = c.requires.trump;
  leads = c.args.layout.now.leads;
  many = c.requires.played;
  dealt = c.in_ok-hands.ensures.1;
  cards = clean;
  three = omega arith;
  lying = c.trick_in-trick.ensures;
}

pub returns-in_err-check_suits : goal.returns-in_err-check_suits
returns-in_err-check_suits c follow room =
    let clean = cards_clean (goal.at.returns-in_err-check_suits c).In_ok-hands in
    let read = read_so_far (goal.at.returns-in_err-check_suits c).After-trick_in-trick clean in
    board_refused _ 6 _ _ _ _ c.from_residual-in_err-check_suits.ensures.1 c.in_err-check_suits.ensures.0 (suits_same _ _ _ _ _ _ read ∙ c.in_err-check_suits.ensures.1)
    ∙ sym (passes _ 4 _ clean ∙ passes _ 5 _ c.in_ok-check_shares.ensures.0)

pub invariant_of-result : goal.invariant_of-result
invariant_of-result c =
    let read = read_so_far (goal.at.invariant_of-result c).After-trick_in-trick (cards_clean (goal.at.invariant_of-result c).In_ok-hands) in
    record {
      seats = omega (arith, hands_four _ _ _ _ _ _ read);
      places = omega arith;
      short = omega arith;
      order = kept _ _ _ _ _ _ read c.in_ok-check_shares.ensures.0 (suits_same _ _ _ _ _ _ read ∙ c.in_ok-check_suits.ensures.0);
    }

pub returns : goal.returns
returns c follow room =
    let clean = cards_clean (goal.at.returns c).In_ok-hands in
    let read = read_so_far (goal.at.returns c).After-trick_in-trick clean in
    ap (λ (t : Table). accepts t (start_of c.args.layout.now.bytes.now 4)) (table_is _ _ _ _ _ _ read)
    ∙ sym (passes _ 4 _ clean ∙ passes _ 5 _ c.in_ok-check_shares.ensures.0 ∙ passes _ 6 _ (suits_same _ _ _ _ _ _ read ∙ c.in_ok-check_suits.ensures.0))
