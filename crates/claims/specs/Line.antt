-- Plays that stop at any turn, in which a side goes by advice. Assumes nothing: these are definitions.
use Rattle.std.specs.Prelude.{◌≡◌, ℕ, ◌+◌, Bool, true, not}
use Rattle.cards.specs.Table.{Table, Sound}
use Rattle.tricks.specs.Rules.{our_turn, may, after, gains}
use Rattle.worth.specs.Value.{worth_of}
use Rattle.claims.specs.Advice.{Advises, Pays}

-- a line of play from t to u, card by card, in which a side goes by adv, the other plays any cards that may be played, and our side takes g tricks
pub data Line (side : Bool) (adv : Table → ℕ) (t : Table) : Table → ℕ → Type 0 where
  start : Line side adv t t 0
  then_advice : {u : Table} {g : ℕ} → Line side adv t u g → our_turn u ≡ side → may u (adv u) ≡ true → Line side adv t (after u (adv u)) (g + gains u (adv u))
  then_other : {u : Table} {g : ℕ} (c : ℕ) → Line side adv t u g → our_turn u ≡ not side → may u c ≡ true → Line side adv t (after u c) (g + gains u c)

-- at every turn the table is sound, and the tricks taken so far and the worth of the table reached are together no worse for the side than the worth at the start
abbrev pub NeverBelow : Type 0
NeverBelow = (side : Bool) (adv : Table → ℕ) (t u : Table) (n g : ℕ) → Advises side adv → Sound t n → Line side adv t u g →
    (m : ℕ) × Sound u m × Pays side (worth_of t) (g + worth_of u)
