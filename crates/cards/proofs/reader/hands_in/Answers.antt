use Rattle.std.proofs.Common.{rules, ◌≡◌, Some, None, refl, arith}
use Rattle.std.proofs.lemmas.List.{map-set}
use Rattle.cards.specs.Bits.{bit}
use Rattle.cards.specs.Hands.{bits_of}
use Rattle.cards.specs.Deal.{first, first_bad, hand_fault}
use Rattle.cards.specs.Refusals.{place_of}
use Rattle.cards.specs.Parts.{Gathered}
use Rattle.cards.proofs.DealLaws.{part_length, cards_at, cards_there, first_none, first_some}
use Rattle.cards.proofs.GatherLaws.{dealt_none, dealt_more, fault_at}
use Rattle.cards.proofs.ReadLaws.{says_err}
use Rattle.cards.proofs.reader.hands_in.Goals as goal

pub loop-p-init : goal.loop-p-init
unfolding first
loop-p-init c = (refl, dealt_none c.args.layout.now.bytes.now _ c.args.trick.bits refl c.requires.trick)

pub overflow_add-start : goal.overflow_add-start
overflow_add-start c = omega (arith, cards_there c.args.layout.now.bytes.now _ _ (c.args.layout.now.placed _ c.loop-p-test.true) c.loop-p-test.true c.requires.whole)

pub part-cards-requires : goal.part-cards-requires
part-cards-requires c = search (rules, cards_there)

pub overflow_add-start-in-loop-p : goal.overflow_add-start-in-loop-p
overflow_add-start-in-loop-p c = search (rules, cards_there)

pub gather-requires : goal.gather-requires
gather-requires c = search (rules, cards_there, part_length)

pub returns-in_err-hand : goal.returns-in_err-hand
returns-in_err-hand c =
    let g = c.args.layout.now in
    let p = c.loop-p.p in
    let taken = c.loop-p.taken.bits in
    let bad = cards_at g.bytes.now p _ _ _ (g.placed p c.loop-p-test.true) c.byte_at.ensures c.part-cards.ensures (λ i cs. first_bad (bit taken) i cs ≡ Some (place_of c.in_err-hand.field-0.0)) c.in_err-hand.ensures.1 in
    says_err 4 _ _ _ _ c.from_residual.ensures.1 c.in_err-hand.ensures.0
    (first_some (hand_fault g.bytes.now) 4 p _ c.loop-p-test.true c.loop-p.invariant.0 (fault_at g.bytes.now _ taken p _ c.loop-p.invariant.1 bad))

pub loop-p-preserved : goal.loop-p-preserved
loop-p-preserved c =
    let bs = c.args.layout.now.bytes.now in
    let p = c.loop-p.p in
    let taken = c.loop-p.taken.bits in
    let hand = c.in_ok-hand.hand.bits in
    let d = c.loop-p.invariant.1 in
    let g = cards_at bs p _ _ _ (c.args.layout.now.placed p c.loop-p-test.true) c.byte_at.ensures c.part-cards.ensures (λ i cs. (first_bad (bit taken) i cs ≡ None) × Gathered cs hand) c.in_ok-hand.ensures in (
      first_none (hand_fault bs) p c.loop-p.invariant.0 (fault_at bs _ taken p None d g.0),
      rw (map-set (λ h. h.bits) c.loop-p.hands p c.in_ok-hand.hand)
          (dealt_more bs (bits_of c.loop-p.hands) taken hand _ p d c.loop-p-test.true c.requires.whole g.1 c.union-taken.ensures),
    )
