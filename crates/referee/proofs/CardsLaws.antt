-- How many cards are left at a table. Assumes nothing.
use Rattle.std.proofs.Common.{◌≡◌, ℕ, ◌+◌, ◌-◌, ◌%◌, ◌<◌, ◌≤◌, ltb, List, [], ◌∷◌, length, sum_by, arith}
use Rattle.cards.specs.Table.{Table, one, deck, count, cards_left, Sound, InOrder}
use Rattle.cards.specs.Bits.{bit}
use Rattle.cards.specs.Hands.{held}
use Rattle.cards.specs.Seen.{seen}
use Rattle.cards.specs.declared.board.Board.{Board}
use Rattle.cards.specs.declared.hand.Hand.{Hand}
use Rattle.tricks.proofs.CardsLeft.{cards_are}

-- the cards of four hands
hands_count : (hands : List Hand) → length hands ≡ 4 →
    sum_by (λ h. count (bit h.bits) deck) hands
    ≡ (count (held hands 0) deck + count (held hands 1) deck) + (count (held hands 2) deck + count (held hands 3) deck)
hands_count (a ∷ b ∷ c ∷ d ∷ []) l = omega arith
hands_count [] l = absurd (omega arith)
hands_count (a ∷ []) l = absurd (omega arith)
hands_count (a ∷ b ∷ []) l = absurd (omega arith)
hands_count (a ∷ b ∷ c ∷ []) l = absurd (omega arith)
hands_count (a ∷ b ∷ c ∷ d ∷ e ∷ es) l = absurd (omega arith)

-- at a table they are the cards left
pub board_count : (b : Board) → sum_by (λ h. count (bit h.bits) deck) b.hands ≡ cards_left (seen b)
board_count b = hands_count b.hands b.seats

-- the place in the trick of a player's card
abbrev seat_after : Table → ℕ → ℕ
seat_after t p = ((p + 4) - t.leader) % 4

-- each player has, with its card in the trick, as many cards as tricks are left
pub share : (t : Table) (n p : ℕ) → Sound t n → p < 4 → count (t.hand p) deck + one (ltb (seat_after t p) (length t.trick)) ≡ n
share t n p s l =
    let seat : (t.leader + seat_after t p) % 4 ≡ p = omega (arith, s.leads) in
    rw seat at (s.have (seat_after t p) (omega arith))

-- a table in order has at most 32 cards
pub few_cards : (t : Table) (n : ℕ) → InOrder t n → cards_left t ≤ 32
few_cards t n o = omega (arith, o.few, cards_are t n o.sound)
