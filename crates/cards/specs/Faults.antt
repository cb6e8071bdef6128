-- The reader's checks in the subject's words: for each check, what is wrong with a deal at a place. Assumes nothing: these are definitions.
use Rattle.std.specs.Prelude.{◌≡◌, ℕ, suc, ◌+◌, ◌*◌, ◌%◌, ◌<◌, ◌≤◌, ◌⊎◌, List, length, ◌≢◌}
use Rattle.cards.specs.Table.{deck, suit, most_tricks}
use Rattle.cards.specs.Deal.{byte, start_of, number_byte, share}
use Rattle.cards.specs.declared.room.Room.{Room}

pub data Check : Type 0 where
  bad_trump : Check
  bad_lead : Check
  no_room : Check
  cut_short : Check
  bad_card : Check
  bad_share : Check
  bad_suit : Check

-- the order in which the checks are made
abbrev pub order : Check → ℕ
order bad_trump = 0
order bad_lead = 1
order no_room = 2
order cut_short = 3
order bad_card = 4
order bad_share = 5
order bad_suit = 6

-- the number by which a check's refusal is told
abbrev pub number : Check → ℕ
number bad_trump = 1
number bad_lead = 2
number no_room = 11
number cut_short = 3
number bad_card = 4
number bad_share = 5
number bad_suit = 6

-- some player's number byte is there, and P holds of what it says
abbrev pub SomeNumber : List ℕ → (ℕ → Type 0) → Type 0
SomeNumber bs P = (q : ℕ) × (q < 4) × (start_of bs q < length bs) × P (number_byte bs q)

-- a card of the trick stands at p
abbrev pub TrickCard : List ℕ → ℕ → Type 0
TrickCard bs p = (3 ≤ p) × (p < start_of bs 0) × (p < length bs)

-- a card of player q stands at p
abbrev pub HandCard : List ℕ → ℕ → ℕ → Type 0
HandCard bs q p = (start_of bs q < p) × (p < start_of bs (suc q)) × (p < length bs)

-- a card stands at p
abbrev pub CardPlace : List ℕ → ℕ → Type 0
CardPlace bs p = TrickCard bs p ⊎ ((q : ℕ) × (q < 4) × HandCard bs q p)

-- what is wrong at place p, for each check by itself, with a deal that n bytes have to follow
abbrev pub Fault : ℕ → List ℕ → Room → Check → ℕ → Type 0
Fault n bs room bad_trump p = (p ≡ 0) × (4 < byte bs 0)
Fault n bs room bad_lead p = ((p ≡ 1) × (3 < byte bs 1)) ⊎ ((p ≡ 2) × (3 < byte bs 2))
Fault n bs room no_room p =
    ((p ≡ 0) × SomeNumber bs (λ m. room.cards < m))
    ⊎ (((p ≡ 1) × SomeNumber bs (λ m. room.plays < 4 * m))
    ⊎ ((p ≡ 2) × ((room.positions ≡ 0) ⊎ (room.positions ≢ room.worths))))
Fault n bs room cut_short p = (p ≡ length bs) × (length bs < start_of bs 4 + n)
Fault n bs room bad_card p = CardPlace bs p × ((deck ≤ byte bs p) ⊎ ((q : ℕ) × (q < p) × CardPlace bs q × (byte bs q ≡ byte bs p)))
Fault n bs room bad_share p =
    (q : ℕ) × (q < 4) × (p ≡ start_of bs q) × ((share bs q ≢ share bs (byte bs 1)) ⊎ ((share bs q ≡ 0) ⊎ (most_tricks < share bs q)))
Fault n bs room bad_suit p =
    (i : ℕ) × (i < byte bs 2) × (p ≡ 3 + i) × (suit (byte bs p) ≢ suit (byte bs 3))
    × ((r : ℕ) × HandCard bs ((byte bs 1 + i) % 4) r × (byte bs r < deck) × (suit (byte bs r) ≡ suit (byte bs 3)))

-- of faults F, by check and place, the one that applies first: the check fails at p, at no earlier place, and no earlier check fails anywhere
pub record FirstOf (F : Check → ℕ → Type 0) (k : Check) (p : ℕ) : Type 0 where
  pub here : F k p
  pub before : (q : ℕ) → q < p → F k q → ⊥
  pub earlier : (j : Check) (q : ℕ) → order j < order k → F j q → ⊥

-- the refusal of a deal that applies first
abbrev pub First : ℕ → List ℕ → Room → Check → ℕ → Type 0
First n bs room k p = FirstOf (Fault n bs room) k p
