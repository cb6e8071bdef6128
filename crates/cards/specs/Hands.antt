-- The table that the fields of a board stand for. Assumes nothing: these are definitions.
use Rattle.std.specs.Prelude.{ℕ, ◌+◌, Bool, List, map, take, nat_lt, slice_index}
use Rattle.cards.specs.Table.{Table, InOrder, one, deck, count}
use Rattle.cards.specs.Bits.{bit}
use Rattle.cards.specs.Numbers.{trump_number}
use Rattle.cards.specs.declared.card.Card.{Card}
use Rattle.cards.specs.declared.card.Trump.{Trump}
use Rattle.cards.specs.declared.player.Player.{Player}
use Rattle.cards.specs.declared.hand.Hand.{Hand}

abbrev pub bits_of : List Hand → List ℕ
bits_of hands = map (λ h. h.bits) hands

-- does player p hold card c
abbrev pub held : List Hand → ℕ → ℕ → Bool
held hands p c = bit (slice_index (bits_of hands) p) c

abbrev pub numbers : List Card → List ℕ
numbers cards = map (λ c. c.number) cards

-- the table that these fields stand for: of the trick, the first `played` cards lie on it
abbrev pub table_of : Trump → List Hand → Player → List Card → ℕ → Table
table_of trump hands leader trick played =
    record { trump = trump_number trump; hand = held hands; leader = leader.seat; trick = take played (numbers trick) }

-- the tricks left: the leader's cards, with its card in the trick
abbrev pub tricks_of : List Hand → Player → ℕ → ℕ
tricks_of hands leader played = count (held hands leader.seat) deck + one (nat_lt 0 played)

-- the fields stand for a table in order. (A board's invariant has to be a proposition, which the truncation makes it;
-- `in_order` of proofs/Order.antt takes it off again.)
abbrev pub Kept : Trump → List Hand → Player → List Card → ℕ → Type 0
Kept trump hands leader trick played = ∥ InOrder (table_of trump hands leader trick played) (tricks_of hands leader played) ∥₁
