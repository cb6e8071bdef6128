-- What a deal in bytes says, check by check. Assumes nothing: these are definitions.
--
-- A deal is trump, leader, the number of cards in the trick, these cards, and for each player 0 to 3 the number of its cards and the cards.
-- Past the end of the bytes stands 0.
use Rattle.std.specs.Prelude.{ℕ, zero, suc, ◌+◌, ◌-◌, ◌*◌, ◌%◌, max, Bool, false, not, ◌&&◌, ◌||◌, List, [], ◌∷◌, ◌++◌, length, take, drop, Some, None, Option, ◌==◌, nat_lt, slice_index}
use Rattle.cards.specs.Table.{Table, pick, one, deck, suit, most_tricks, has_suit}
use Rattle.cards.specs.declared.room.Room.{Room}

abbrev pub byte : List ℕ → ℕ → ℕ
byte bs i = slice_index bs i

-- the place of player p's number byte, which says how many cards it has; for player 4, the place after the deal
unfoldable pub start_of : List ℕ → ℕ → ℕ
start_of bs zero = 3 + byte bs 2
start_of bs (suc p) = (start_of bs p + 1) + byte bs (start_of bs p)

abbrev pub number_byte : List ℕ → ℕ → ℕ
number_byte bs p = byte bs (start_of bs p)

abbrev pub trick_of : List ℕ → List ℕ
trick_of bs = take (byte bs 2) (drop 3 bs)

abbrev pub cards_of : List ℕ → ℕ → List ℕ
cards_of bs p = take (number_byte bs p) (drop (start_of bs p + 1) bs)

-- the cards that stand before player p's
unfoldable pub before : List ℕ → ℕ → List ℕ
before bs zero = trick_of bs
before bs (suc p) = before bs p ++ cards_of bs p

-- is x among these
unfoldable pub has : List ℕ → ℕ → Bool
has [] x = false
has (c ∷ cs) x = x == c || has cs x

-- the table that a deal says
abbrev pub table_in : List ℕ → Table
table_in bs = record { trump = byte bs 0; hand = λ p c. nat_lt p 4 && has (cards_of bs p) c; leader = byte bs 1; trick = trick_of bs }

-- what a check finds: the place of its first fault, or none

-- a place, if a test holds
abbrev pub fault : Bool → ℕ → Option ℕ
fault b place = pick b (Some place) None

-- the first of two
abbrev pub or_else : Option ℕ → Option ℕ → Option ℕ
or_else None o = o
or_else (Some x) o = Some x

-- the first of f 0, f 1, .. below n
unfoldable pub first : (ℕ → Option ℕ) → ℕ → Option ℕ
first f zero = None
first f (suc n) = or_else (first f n) (f n)

-- trump is above 4
abbrev pub trump_fault : List ℕ → Option ℕ
trump_fault bs = fault (nat_lt 4 (byte bs 0)) 0

-- the leader is above 3, or there are more than three cards in the trick
abbrev pub lead_fault : List ℕ → Option ℕ
lead_fault bs = or_else (fault (nat_lt 3 (byte bs 1)) 1) (fault (nat_lt 3 (byte bs 2)) 2)

-- the largest of f 0, f 1, .. below n
unfoldable pub largest : (ℕ → ℕ) → ℕ → ℕ
largest f zero = 0
largest f (suc n) = max (largest f n) (f n)

-- the largest number byte
abbrev pub most_cards : List ℕ → ℕ
most_cards bs = largest (number_byte bs) 4

-- with hands of n cards: more than the room for hands, fewer places for plays than four times that,
-- or slices for positions that are empty or not of one length
abbrev pub lacks : Room → ℕ → Option ℕ
lacks room n =
    or_else (fault (nat_lt room.cards n) 0)
    (or_else (fault (nat_lt room.plays (4 * n)) 1)
    (fault (room.positions == 0 || not (room.positions == room.worths)) 2))

-- the deal ends before four hands are whole, or before the n bytes that have to follow them
abbrev pub end_fault : ℕ → List ℕ → Option ℕ
end_fault n bs = fault (nat_lt (length bs) (start_of bs 4 + n)) (length bs)

-- of cards that stand from place i on, after those of the set old: the first that is none, or that was there before
unfoldable pub first_bad : (ℕ → Bool) → ℕ → List ℕ → Option ℕ
first_bad old i [] = None
first_bad old i (c ∷ cs) = pick (not (nat_lt c deck) || old c) (Some i) (first_bad (λ x. old x || x == c) (suc i) cs)

-- a card of player p that is none, or stands before
abbrev pub hand_fault : List ℕ → ℕ → Option ℕ
hand_fault bs p = first_bad (has (before bs p)) (start_of bs p + 1) (cards_of bs p)

abbrev pub card_fault : List ℕ → Option ℕ
card_fault bs = or_else (first_bad (has []) 3 (trick_of bs)) (first (hand_fault bs) 4)

-- player p's cards, with its card in the trick
abbrev pub share : List ℕ → ℕ → ℕ
share bs p = number_byte bs p + one (nat_lt (((p + 4) - byte bs 1) % 4) (byte bs 2))

-- not as many as each should have, or none, or more than eight
abbrev pub uneven : ℕ → ℕ → Bool
uneven own each = not (own == each) || (own == 0 || nat_lt most_tricks own)

-- a hand that has not as many cards as the leader's, or none, or more than eight
abbrev pub share_fault : List ℕ → Option ℕ
share_fault bs = first (λ p. fault (uneven (share bs p) (share bs (byte bs 1))) (start_of bs p)) 4

-- the card i of a trick is of another suit than the one led, and its player holds one of that
abbrev pub against : List ℕ → (ℕ → ℕ → Bool) → ℕ → ℕ → Bool
against trick hand leader i = not (suit (slice_index trick i) == suit (slice_index trick 0)) && has_suit (hand ((leader + i) % 4)) (suit (slice_index trick 0)) deck

-- the same of the trick of a deal
abbrev pub revokes : List ℕ → ℕ → Bool
revokes bs i = not (suit (byte bs (3 + i)) == suit (byte bs 3)) && has_suit (has (cards_of bs ((byte bs 1 + i) % 4))) (suit (byte bs 3)) deck

abbrev pub suit_fault : List ℕ → Option ℕ
suit_fault bs = first (λ i. fault (revokes bs i) (3 + i)) (byte bs 2)
