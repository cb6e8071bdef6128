use Rattle.std.proofs.Common.{◌≡◌, ℕ, eqb, sym, refl, ◌∙◌, ap, arith, rules}
use Rattle.std.proofs.lemmas.Bool.{eqb-true}
use Rattle.cards.specs.Table.{pick}
use Rattle.cards.specs.Bits.{bit}
use Rattle.cards.specs.Numbers.{side_number}
use Rattle.cards.specs.Seen.{seen}
use Rattle.worth.specs.Value.{worth_of}
use Rattle.worth.specs.Lent.{SameSlots}
use Rattle.worth.specs.Search.{clamp}
use Rattle.worth.specs.declared.window.Window.{Window}
use Rattle.worth.proofs.WindowLaws.{still_open}
use Rattle.worth.proofs.MoveLaws.{after_under}
use Rattle.worth.proofs.PositionLaws.{under_same}
use Rattle.worth.proofs.SearchLaws.{after_falls, after_left, exact_worth, so_far_none, so_far_skips, so_far_takes, so_far_all, so_far_closed}
use Rattle.worth.proofs.search.+search.Goals as goal
use Rattle.worth.proofs.search.+search.Goals.{Left-suits, else-suits-test, then-suits-test+then-loop-rank-test+in-Some-played_of+then-is_closed-2}

pub suits-init : goal.suits-init
suits-init t c =
    let some = still_open c.args.window c.is_closed.result c.is_closed.ensures c.if-is_closed.false in
    record { so_far = so_far_none c.args.board _ _ _ _ c.requires.left c.candidates-cards.ensures refl some c.requires.most; apart = some; same = search rules }

pub search-requires : goal.search-requires
search-requires t c =
    let b = c.args.board in
    let x = c.card_of.result.number in
    let p = c.in-Some-played_of.played in
    let done = c.in-Some-played_of.ensures.1 in
    let left = after_left b x p done c.args.left _ c.requires.left c.left_with-rest.ensures in
    (after_falls b x p done t c.decreases, (left, (omega (arith, c.after-next.ensures.high), under_same _ _ c.loop-rank.invariant.same _ (after_under b x p done _ c.requires.under))))

pub loop-rank-preserved-else-is_closed-2 : goal.loop-rank-preserved-else-is_closed-2
loop-rank-preserved-else-is_closed-2 t c =
    let s = so_far_takes c.args.board c.args.left c.args.window (bit c.candidates-cards.result.bits) c.card_of.result.number _ c.loop-rank.open c.after-next.result c.narrowed-open.result
    c.in-Some-played_of.played (eqb (side_number c.side_to_play-side.result) 0) _ _ _ (omega (arith, c.card_of.ensures)) c.in-Some-played_of.ensures c.side_to_play-side.ensures c.requires.left
    c.left_with-rest.ensures c.gain-gain.ensures c.loop-rank.invariant.apart c.after-next.ensures.low c.after-next.ensures.high c.search.ensures.worth
    c.narrowed-open.ensures.low c.narrowed-open.ensures.high c.loop-rank.invariant.so_far in
    record {
      so_far = rw c.card_of.ensures at s;
      apart = still_open c.narrowed-open.result c.is_closed-in-Some-played_of.result c.is_closed-in-Some-played_of.ensures c.if-is_closed-2.false;
      same = search rules;
    }

pub loop-rank-preserved : goal.loop-rank-preserved
loop-rank-preserved t c =
    let s = so_far_skips c.args.board c.args.left c.args.window (bit c.candidates-cards.result.bits) c.card_of.result.number _ c.loop-rank.open
    (omega (arith, c.card_of.ensures)) c.in_default-played_of.ensures c.loop-rank.invariant.so_far in
    record { so_far = rw c.card_of.ensures at s; apart = c.loop-rank.invariant.apart; same = c.loop-rank.invariant.same }

-- after the loops, however they were left
settled : (t : ℕ) (c : goal.Left-suits t) →
    (pick (eqb (side_number c.side_to_play-side.result) 0) c.suits-test.open.low c.suits-test.open.high ≡ clamp c.args.window.low c.args.window.high (worth_of (seen c.args.board)))
    × SameSlots c.args.positions.now c.suits-test.positions
settled t c =
    let ours = (eqb (side_number c.side_to_play-side.result) 0) in
    let set = bit c.candidates-cards.result.bits in
    elim c.suits-test.branch [
      | else-suits-test w ↦ (
        ap (λ (v : Window). pick ours v.low v.high) w.open-is
            ∙ so_far_all c.args.board c.args.left c.args.window set _ _ ours (omega arith) c.side_to_play-side.ensures c.suits.invariant.so_far,
        search rules,
      )
      | then-suits-test+then-loop-rank-test+in-Some-played_of+then-is_closed-2 w ↦
          let s = so_far_takes c.args.board c.args.left c.args.window set w.card_of.result.number _ w.loop-rank.open w.after-next.result w.narrowed-open.result
          w.in-Some-played_of.played ours _ _ _ (omega (arith, w.card_of.ensures)) w.in-Some-played_of.ensures c.side_to_play-side.ensures c.requires.left
          w.left_with-rest.ensures w.gain-gain.ensures w.loop-rank.invariant.apart w.after-next.ensures.low w.after-next.ensures.high w.search.ensures.worth
          w.narrowed-open.ensures.low w.narrowed-open.ensures.high w.loop-rank.invariant.so_far in
          let met = eqb-true w.narrowed-open.result.low w.narrowed-open.result.high (sym w.is_closed-in-Some-played_of.ensures ∙ w.if-is_closed-2.true) in (
            ap (λ (v : Window). pick ours v.low v.high) w.open-is ∙ so_far_closed c.args.board c.args.left c.args.window set _ _ ours met s,
            search rules,
          )
    ]

pub store-requires : goal.store-requires
store-requires t c =
    let (worth, same) = settled t (goal.at.store-requires t c).Left-suits in
    record {
      worth = exact_worth c.args.board c.args.window c.args.left _ c.requires.left (c.reached-worth.ensures ∙ worth) (sym c.is_exact.ensures ∙ c.if-is_exact.true);
      under = under_same _ _ same _ c.requires.under;
    }

pub returns-then-is_exact-clause-worth : goal.returns-then-is_exact-clause-worth
returns-then-is_exact-clause-worth t c = c.reached-worth.ensures ∙ (settled t (goal.at.returns-then-is_exact-clause-worth t c).Left-suits).0

pub returns-else-is_exact-clause-worth : goal.returns-else-is_exact-clause-worth
returns-else-is_exact-clause-worth t c = c.reached-worth.ensures ∙ (settled t (goal.at.returns-else-is_exact-clause-worth t c).Left-suits).0
