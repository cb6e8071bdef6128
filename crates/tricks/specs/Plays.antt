-- Whole plays, to the last card: what our side can take, what the others can hold it to, and the worth of a table. Assumes nothing: these are definitions.
use Rattle.std.specs.Prelude.{◌≡◌, ℕ, ◌-◌, ◌≤◌, true, false}
use Rattle.cards.specs.Table.{Table}
use Rattle.tricks.specs.Rules.{our_turn, may, after, gains}

-- our side can take n more tricks, whatever the others play: none at once; or by some card of ours; or, where the others play, after each of their cards
pub data Takes : ℕ → Table → Type 0 where
  none : {t : Table} → Takes 0 t
  we_play : {n : ℕ} {t : Table} (c : ℕ) → our_turn t ≡ true → may t c ≡ true → Takes (n - gains t c) (after t c) → Takes n t
  they_play : {n : ℕ} {t : Table} (c : ℕ) → our_turn t ≡ false → may t c ≡ true →
      ((d : ℕ) → may t d ≡ true → Takes (n - gains t d) (after t d)) → Takes n t

-- the others can hold our side to at most n more tricks: no card may be played; or by some card of theirs; or, where our side plays, after each of our cards
pub data Held : ℕ → Table → Type 0 where
  out_of_cards : {n : ℕ} {t : Table} → ((c : ℕ) → may t c ≡ false) → Held n t
  they_do : {n : ℕ} {t : Table} (c : ℕ) → our_turn t ≡ false → may t c ≡ true → gains t c ≤ n → Held (n - gains t c) (after t c) → Held n t
  we_do : {n : ℕ} {t : Table} (c : ℕ) → our_turn t ≡ true → may t c ≡ true → ((d : ℕ) → may t d ≡ true → gains t d ≤ n) →
      ((d : ℕ) → may t d ≡ true → Held (n - gains t d) (after t d)) → Held n t

-- the worth of a table: the tricks that our side can take and that the others can hold it to
abbrev pub Worth : Table → ℕ → Type 0
Worth t v = Takes v t × Held v t
