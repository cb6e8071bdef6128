use Rattle.std.proofs.Common.{◌≡◌, ℕ, List, [], ◌∷◌, is_ok, sym, ap, ◌∙◌, arith}
use Rattle.std.proofs.lemmas.Result.{err_from_is_err_and}
use Rattle.cards.specs.Seen.{seen}
use Rattle.cards.specs.Deal.{start_of, lacks}
use Rattle.cards.specs.Faults.{bad_card, bad_share, bad_suit}
use Rattle.cards.specs.Reading.{accepts, run, reading}
use Rattle.cards.proofs.ReadLaws.{on_to_cards, none_short, trump_low}
use Rattle.cards.proofs.reader.checked_deal.Goals as goal
use Rattle.cards.proofs.reader.checked_deal.Goals.{In-Some-whole}

-- the checks before those of the cards have passed, and what is left is what the code goes on with
passed : (c : In-Some-whole) → run c.args.follow c.of-layout.result.bytes.now c.args.room (bad_card ∷ bad_share ∷ bad_suit ∷ []) ≡ reading c.args.follow c.args.bytes.now c.args.room
passed c =
    let same = c.of-layout.ensures in
    let ends = c.of-layout.result.ends ∙ ap (λ (bs : List ℕ). start_of bs 4) same in
    let suffices = none_short c.suffices.result _ (sym c.map_err.ensures.variant ∙ ap is_ok c.in_ok-map_err.was) (c.suffices.ensures ∙ ap (lacks c.args.room) c.most_cards.ensures) in
    rw same (sym (on_to_cards c.args.bytes.now c.args.room
    (omega (arith, trump_low c.in-Ok.trump, c.in-Ok.ensures, c.byte_at.ensures))
    (omega (arith, c.in-Ok-try_from.ensures, c.in-Ok-try_from.leader.low, c.byte_at-2.ensures))
    (omega (arith, c.in-Some.ensures, c.byte_at-3.ensures))
    (rw (← same) suffices) c.args.follow (omega (arith, c.in-Some-whole.ensures, ends))))

pub returns-in_err-board-clause-value : goal.returns-in_err-board-clause-value
returns-in_err-board-clause-value c =
    let e = err_from_is_err_and c.from_residual-in_err-board.result c.from_residual-in_err-board.ensures.1 in
    rw (e.1, e.2) (c.in_err-board.ensures c.args.follow c.args.room) ∙ passed (goal.at.returns-in_err-board-clause-value c).In-Some-whole

pub returns-clause-value : goal.returns-clause-value
returns-clause-value c =
    ap (accepts (seen c.in_ok-board.board)) (c.in-Some-whole.ensures.0 ∙ c.of-layout.result.ends) ∙ c.in_ok-board.ensures c.args.follow c.args.room ∙ passed (goal.at.returns-clause-value c).In-Some-whole
