-- What holds of the rules: statements, types whose proofs are owed. Assumes nothing: these are definitions.
use Rattle.std.specs.Prelude.{◌≡◌, ℕ, ◌+◌, ◌-◌, ◌%◌, ◌<◌, true, false, ◌&&◌, [], ◌∷◌, length, ◌==◌, nat_lt, slice_index, slice_index_or}
use Rattle.cards.specs.Table.{Table, pick, one, deck, count, Sound, InOrder}
use Rattle.tricks.specs.Rules.{turn, may, after}
use Rattle.tricks.specs.Plays.{Worth}

-- the player to play may play some card, while it has any
abbrev pub SomebodyMay : Type 0
SomebodyMay = (t : Table) (n : ℕ) → Sound t n → 0 < count (t.hand (turn t)) deck → (c : ℕ) × (may t c ≡ true)

-- the tricks left after a card, of n: the fourth card of a trick ends one
abbrev pub left_after : Table → ℕ → ℕ
left_after t n = pick (length t.trick == 3) (n - 1) n

-- a sound table is sound after a card that may be played
abbrev pub KeepsSound : Type 0
KeepsSound = (t : Table) (n c : ℕ) → Sound t n → may t c ≡ true → Sound (after t c) (left_after t n)

-- a table in order is in order after a card that may be played
abbrev pub StaysSound : Type 0
StaysSound = (t : Table) (n c : ℕ) → InOrder t n → may t c ≡ true → InOrder (after t c) (left_after t n)

-- sound, but with the cards on the table in no hand at all, be it of a player who sits there or not: `played` speaks of every number as a player
pub record SoundAnywhere (t : Table) (n : ℕ) : Type 0 where
  pub leads : t.leader < 4
  pub short : length t.trick < 4
  pub once : (p q c : ℕ) → p < 4 → q < 4 → t.hand p c ≡ true → t.hand q c ≡ true → p ≡ q
  pub cards : (c p : ℕ) → t.hand p c ≡ true → c < deck
  pub played : (i d : ℕ) → i < length t.trick → (p : ℕ) → t.hand p (slice_index_or t.trick i d) ≡ false
  pub have : (i : ℕ) → i < 4 → count (t.hand ((t.leader + i) % 4)) deck + one (nat_lt i (length t.trick)) ≡ n

-- that form stays under a card. It does not: a number past the four, at which nobody sits, may hold a player's card
abbrev pub StaysSoundAnywhere : Type 0
StaysSoundAnywhere = (t : Table) (n c : ℕ) → SoundAnywhere t n → may t c ≡ true → SoundAnywhere (after t c) (left_after t n)

-- the table of one trick: no trump, player 0 leads, and players 0 to 3 have one card each
abbrev pub one_card_each : ℕ → ℕ → ℕ → ℕ → Table
one_card_each a b c d = record { trump = 4; hand = λ p x. nat_lt p 4 && (x == slice_index (a ∷ b ∷ c ∷ d ∷ []) p); leader = 0; trick = [] }

-- worked tables, in spades: led by the ace, over king, queen and jack, the trick is ours; led by the two, it is the others'
abbrev pub Worked : Type 0
Worked = Worth (one_card_each 51 50 49 48) 1 × Worth (one_card_each 39 50 49 48) 0
