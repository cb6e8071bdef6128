-- The value of a table: how many tricks our side takes if both sides play as well as can be. Assumes nothing: these are definitions.
use Rattle.std.specs.Prelude.{ℕ, zero, suc, ◌+◌, ◌/◌, min, max, Bool, length}
use Rattle.cards.specs.Table.{Table, pick, deck, cards_left}
use Rattle.tricks.specs.Rules.{our_turn, may, after, gains}

-- the better of two numbers, for who is to play: the larger for our side, the smaller for the others
abbrev pub better : Bool → ℕ → ℕ → ℕ
better ours a b = pick ours (max a b) (min a b)

-- the worst that who is to play can have, of m tricks
abbrev pub worst : Bool → ℕ → ℕ
worst ours m = pick ours 0 m

-- the tricks still to be finished, with k cards in the hands
abbrev pub tricks : ℕ → Table → ℕ
tricks k t = (k + length t.trick) / 4

-- the tricks still to be finished
abbrev pub tricks_at : Table → ℕ
tricks_at t = tricks (cards_left t) t

-- the best over the cards below i that are in a set, where v is the value of what comes after and m the most that can be had
unfoldable pub best_below : (ℕ → Bool) → (Table → ℕ) → ℕ → Table → ℕ → ℕ
best_below set v m t zero = worst (our_turn t) m
best_below set v m t (suc i) = pick (set i) (better (our_turn t) (best_below set v m t i) (gains t i + v (after t i))) (best_below set v m t i)

-- the value with k cards in the hands: the best over all cards that may be played
unfoldable pub value : ℕ → Table → ℕ
value zero t = 0
value (suc k) t = best_below (may t) (value k) (tricks (suc k) t) t deck

-- the value of a table
abbrev pub worth_of : Table → ℕ
worth_of t = value (cards_left t) t
