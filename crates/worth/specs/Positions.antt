-- The positions that a search keeps, each with its worth: how one is a number, and when what is kept is true. Assumes nothing: these are definitions, and one law that a struct's invariant is stated with.
use Rattle.std.specs.Prelude.{◌≡◌, ℕ, ◌/◌, ◌%◌, ◌^◌, ◌<◌, Bool, true, ◌&&◌, ◌||◌, List, [], length, slice_index}
use Rattle.std.specs.Coded.{Π_prop, →_prop, Coded-set, coded_ℕ}
use Rattle.cards.specs.Table.{Table, deck}
use Rattle.cards.specs.Bits.{bit}
use Rattle.worth.specs.Value.{worth_of}

-- is card c still in one of the four hands
abbrev pub held : Table → ℕ → Bool
held t c = (t.hand 0 c || t.hand 1 c) || (t.hand 2 c || t.hand 3 c)

-- k is the key of a table: the cards still held as its low 52 bits, and above them the leader
pub record Key (t : Table) (k : ℕ) : Type 0 where
  pub cards : (c : ℕ) → bit (k % 2 ^ deck) c ≡ held t c
  pub leads : k / 2 ^ deck ≡ t.leader

-- the table that a key stands for, at the start of a trick: each player has what is left of its cards at the root
abbrev pub position : Table → ℕ → Table
position root k = record { trump = root.trump; hand = λ p c. root.hand p c && bit (k % 2 ^ deck) c; leader = k / 2 ^ deck; trick = [] }

-- a table that can come of the root: it has the same trump, and each player holds only cards that it held there
pub record Under (root t : Table) : Type 0 where
  pub trump : t.trump ≡ root.trump
  pub cards : (p c : ℕ) → t.hand p c ≡ true → root.hand p c ≡ true

-- each slot has the worth of its position. (An empty slot, 0 and 0, has that of the table with no cards.)
unfoldable pub True : Table → List ℕ → List ℕ → Type 0
True root keys worths = (i : ℕ) → i < length keys → slice_index worths i ≡ worth_of (position root (slice_index keys i))

-- it has one proof only, as an invariant must
pub true_prop : (root : Table) (keys worths : List ℕ) → IsProp (True root keys worths)
unfolding True
true_prop root keys worths = Π_prop (λ i. →_prop (Coded-set coded_ℕ (slice_index worths i) (worth_of (position root (slice_index keys i)))))
