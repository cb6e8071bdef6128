-- Cards that are as good as each other: what it means, and what makes them so. Assumes nothing: these are definitions.
use Rattle.std.specs.Prelude.{◌≡◌, ℕ, zero, suc, ◌<◌, Bool, true, not, ◌&&◌, ◌||◌, List, nat_lt}
use Rattle.cards.specs.Table.{Table, deck, suit, Sound}
use Rattle.cards.specs.Deal.{has}
use Rattle.tricks.specs.Rules.{turn, may, after, gains}
use Rattle.tricks.specs.Plays.{Worth}

-- is card x on the table, among these
abbrev pub on : ℕ → List ℕ → Bool
on x trick = has trick x

-- is card x in play: one of the four players holds it, or it lies on the table
abbrev pub in_play : Table → ℕ → Bool
in_play t x = (t.hand 0 x || t.hand 1 x) || ((t.hand 2 x || t.hand 3 x) || on x t.trick)

-- lies none of the first n cards between c and d and is in play
unfoldable pub no_between : Table → ℕ → ℕ → ℕ → Bool
no_between t c d zero = true
no_between t c d (suc n) = (not (nat_lt c n && nat_lt n d) || not (in_play t n)) && no_between t c d n

-- of two cards of one suit that may be played, with no card in play between them, either gains as much at once, and leaves a table of the same worth
abbrev pub AsGood : Type 0
AsGood =
    (t : Table) (n c d v : ℕ) → Sound t n → c < d → suit c ≡ suit d → may t c ≡ true → may t d ≡ true → no_between t c d deck ≡ true →
    (Worth (after t c) v → Worth (after t d) v) × (Worth (after t d) v → Worth (after t c) v) × (gains t c ≡ gains t d)

-- card c is as good as card d: it gains as much at once, and the tables after them have the same worth
pub record AsGoodAs (t : Table) (c d : ℕ) : Type 0 where
  pub gain : gains t c ≡ gains t d
  pub there : (v : ℕ) → Worth (after t c) v → Worth (after t d) v
  pub back : (v : ℕ) → Worth (after t d) v → Worth (after t c) v

-- so are the ends of a row: two cards of one suit that may be played, where the player to play holds each card between them that is in play
abbrev pub RowAsGood : Type 0
RowAsGood =
    (t : Table) (n c d : ℕ) → Sound t n → c < d → suit c ≡ suit d → may t c ≡ true → may t d ≡ true →
    ((x : ℕ) → c < x → x < d → in_play t x ≡ true → t.hand (turn t) x ≡ true) → AsGoodAs t c d
