-- The table of the game: its cards, four hands, the trick on it, and when it is in order. Assumes nothing: these are definitions.
use Rattle.std.specs.Prelude.{◌≡◌, ℕ, zero, suc, ◌+◌, ◌/◌, ◌%◌, ◌<◌, ◌≤◌, Bool, true, false, ◌&&◌, ◌||◌, List, length, ◌==◌, ◌≢◌, nat_lt, slice_index, slice_index_or}

-- the first of two where a test holds, else the second
abbrev pub pick : {A : Type 0} → Bool → A → A → A
pick true a b = a
pick false a b = b

-- 1 where a test holds, else 0
abbrev pub one : Bool → ℕ
one b = pick b 1 0

-- a card is 13 times its suit and its rank: suits 0 to 3, ranks 0 to 12, and 52 cards in all
abbrev pub deck : ℕ
deck = 52

abbrev pub suit : ℕ → ℕ
suit c = c / 13

abbrev pub rank : ℕ → ℕ
rank c = c % 13

-- the most cards that a hand has, with its card in the trick
abbrev pub most_tricks : ℕ
most_tricks = 8

-- players sit round, 0 to 3; 0 and 2 are one side. A suit may be trump; 4 is none. `hand p c` says that player p holds card c
pub record Table : Type 0 where
  pub trump : ℕ
  pub hand : ℕ → ℕ → Bool
  pub leader : ℕ
  pub trick : List ℕ

-- has a hand a card of suit s, among the first n cards
unfoldable pub has_suit : (ℕ → Bool) → ℕ → ℕ → Bool
has_suit h s zero = false
has_suit h s (suc n) = (h n && suit n == s) || has_suit h s n

-- how many of the first n cards a hand has
unfoldable pub count : (ℕ → Bool) → ℕ → ℕ
count h zero = 0
count h (suc n) = one (h n) + count h n

-- the cards in the four hands
abbrev pub cards_left : Table → ℕ
cards_left t = (count (t.hand 0) deck + count (t.hand 1) deck) + (count (t.hand 2) deck + count (t.hand 3) deck)

-- a table with n tricks left: its leader sits there, at most three cards lie in the trick, no card is in two hands,
-- none on the table is in a hand, and each hand has, with its card in the trick, n cards
pub record Sound (t : Table) (n : ℕ) : Type 0 where
  pub leads : t.leader < 4
  pub short : length t.trick < 4
  pub once : (p q c : ℕ) → p < 4 → q < 4 → t.hand p c ≡ true → t.hand q c ≡ true → p ≡ q
  pub cards : (c p : ℕ) → t.hand p c ≡ true → c < deck
  pub played : (i d : ℕ) → i < length t.trick → (p : ℕ) → p < 4 → t.hand p (slice_index_or t.trick i d) ≡ false
  pub have : (i : ℕ) → i < 4 → count (t.hand ((t.leader + i) % 4)) deck + one (nat_lt i (length t.trick)) ≡ n

-- a table in order is sound, has at most eight tricks left, and has a trick of cards that are apart,
-- none of which was played against the suit led by one who holds it
pub record InOrder (t : Table) (n : ℕ) : Type 0 where
  pub sound : Sound t n
  pub few : n ≤ most_tricks
  pub low : (i : ℕ) → i < length t.trick → slice_index t.trick i < deck
  pub apart : (i j : ℕ) → i < j → j < length t.trick → slice_index t.trick i ≢ slice_index t.trick j
  pub suited : (i : ℕ) → i < length t.trick → (suit (slice_index t.trick i) ≢ suit (slice_index t.trick 0)) →
      has_suit (t.hand ((t.leader + i) % 4)) (suit (slice_index t.trick 0)) deck ≡ false
