use Rattle.std.proofs.Common.{rules, ◌≡◌, ℕ, ◌+◌, ◌%◌, ◌<◌, Bool, not, ◌&&◌, eqb, List, length, get_or, take, sym, refl, ap, ◌∙◌, arith}
use Rattle.std.proofs.lemmas.List.{get_or-map, get_or-take}
use Rattle.cards.specs.Table.{deck, suit, has_suit}
use Rattle.cards.specs.Bits.{bit}
use Rattle.cards.specs.Hands.{held, numbers}
use Rattle.cards.specs.Deal.{first, fault, against}
use Rattle.cards.specs.declared.card.Card.{Card}
use Rattle.cards.specs.declared.hand.Hand.{Hand}
use Rattle.cards.proofs.DealLaws.{first_none, first_some}
use Rattle.cards.proofs.reader.check_suits.Goals as goal

-- the test of a card, by what the code reads from its arrays
against_at : (trick : List Card) (hands : List Hand) (seat i p : ℕ) (led card : Card) (hand : Hand) → card.number ≡ get_or (numbers trick) i 0 → 0 < length trick → p < length hands → p ≡ (seat + i) % 4 →
    against (numbers trick) (held hands) seat i ≡ (not (eqb (suit card.number) (suit (get_or trick 0 led).number)) && has_suit (bit (get_or hands p hand).bits) (suit (get_or trick 0 led).number) deck)
against_at trick hands seat i p led card hand is l n e = rw (← get_or-map (λ c. c.number) trick 0 led 0 l, ← get_or-map (λ h. h.bits) hands p hand 0 n, is, e) refl

-- a card among the first so many of a trick
card_is : (trick : List Card) (n i : ℕ) (card : Card) → i < n → i < length trick → card ≡ get_or (take n trick) i card → card.number ≡ get_or (numbers trick) i 0
card_is trick n i card l m e = ap (λ (c : Card). c.number) (e ∙ get_or-take n trick i card l) ∙ sym (get_or-map (λ c. c.number) trick i card 0 m)

pub loop-i-init : goal.loop-i-init
unfolding first
loop-i-init c = refl

pub returns-then-is_against : goal.returns-then-is_against
returns-then-is_against c =
    let card = card_is c.args.trick c.args.played c.loop-i.i c.card-item.result (omega arith) (omega arith) c.card-item.is in (
      refl,
      first_some _ c.args.played c.loop-i.i (3 + c.loop-i.i) (omega arith) c.loop-i.invariant
          (ap (λ (b : Bool). fault b (3 + c.loop-i.i))
          (against_at c.args.trick c.args.hands c.args.leader.seat c.loop-i.i c.ahead-player.result.seat _ c.card-item.result _ card (omega arith) (omega arith) c.ahead-player.ensures ∙ sym c.if-is_against.ensures)),
    )

pub loop-i-preserved : goal.loop-i-preserved
loop-i-preserved c = search (rules, first_none, against_at, card_is)
