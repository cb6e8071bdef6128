-- The rules of the game: who is to play, what may be played, who takes a trick, and the table after a card. Assumes nothing: these are definitions.
use Rattle.std.specs.Prelude.{ℕ, suc, ◌+◌, ◌%◌, Bool, true, not, ◌&&◌, ◌||◌, List, [], ◌∷◌, ◌++◌, length, ◌==◌, nat_lt}
use Rattle.cards.specs.Table.{Table, pick, one, deck, suit, rank, has_suit}

-- the player to play: each in turn from the leader on
abbrev pub turn : Table → ℕ
turn t = (t.leader + length t.trick) % 4

-- is our side to play, players 0 and 2
abbrev pub our_turn : Table → Bool
our_turn t = turn t % 2 == 0

-- does a card go on a trick, by the suit led: any leads; then it is of the suit of the first card, or the hand has none of that suit
unfoldable pub follows : (ℕ → Bool) → List ℕ → ℕ → Bool
follows h [] c = true
follows h (l ∷ ls) c = suit c == suit l || not (has_suit h (suit l) deck)

-- may card c be played: it is a card in the hand of the player to play, and follows the suit led
abbrev pub may : Table → ℕ → Bool
may t c = (nat_lt c deck && t.hand (turn t) c) && follows (t.hand (turn t)) t.trick c

-- does card d beat card c, where suit s was led: it is of the same suit and higher, or a trump on a card that is none
abbrev pub beats : ℕ → ℕ → ℕ → ℕ → Bool
beats trump s c d = (suit d == suit c && nat_lt (rank c) (rank d)) || (not (suit c == trump) && suit d == trump)

-- the place in the trick of its best card: c at place `at` is the best so far, and the rest stand from place i on
unfoldable pub best : ℕ → ℕ → ℕ → ℕ → ℕ → List ℕ → ℕ
best trump s c at i [] = at
best trump s c at i (d ∷ ds) = pick (beats trump s c d) (best trump s d i (suc i) ds) (best trump s c at (suc i) ds)

-- the player who takes a trick: the one whose card is best
unfoldable pub winner : Table → List ℕ → ℕ
winner t [] = t.leader
winner t (c ∷ cs) = (t.leader + best t.trump (suit c) c 0 1 cs) % 4

-- the hands after card c: who is to play has it no more
abbrev pub without : Table → ℕ → ℕ → ℕ → Bool
without t c p x = t.hand p x && not (p == turn t && x == c)

-- the table after card c: it lies in the trick; a fourth card ends the trick, and its winner leads
unfoldable pub after : Table → ℕ → Table
after t c = record {
  trump = t.trump;
  hand = without t c;
  leader = pick (length t.trick == 3) (winner t (t.trick ++ (c ∷ []))) t.leader;
  trick = pick (length t.trick == 3) [] (t.trick ++ (c ∷ []));
}

-- the tricks that our side takes by card c: one if it ends a trick that a player of our side wins, else none
unfoldable pub gains : Table → ℕ → ℕ
gains t c = one (length t.trick == 3 && winner t (t.trick ++ (c ∷ [])) % 2 == 0)
