-- Advice: the lowest card that keeps the worth, and what a side gets that plays by it to the end. Assumes nothing: these are definitions.
use Rattle.std.specs.Prelude.{◌≡◌, ℕ, ◌+◌, ◌-◌, ◌<◌, ◌≤◌, Bool, true, false, not, ◌&&◌, Some, None, Option, ◌==◌}
use Rattle.cards.specs.Table.{Table, pick, deck, Sound}
use Rattle.cards.specs.Deal.{first}
use Rattle.tricks.specs.Rules.{our_turn, may, after, gains}
use Rattle.tricks.specs.Plays.{Worth}
use Rattle.worth.specs.Value.{worth_of}

-- the lowest number below n that passes a test
abbrev pub lowest_below : (ℕ → Bool) → ℕ → Option ℕ
lowest_below test n = first (λ c. pick (test c) (Some c) None) n

-- the tricks for our side by card c: what it gains, and the worth of the table after it
abbrev pub worth_by : Table → ℕ → ℕ
worth_by t c = gains t c + worth_of (after t c)

-- does card c, which may be played, keep the worth
abbrev pub keeps : Table → ℕ → Bool
keeps t c = may t c && worth_by t c == worth_of t

-- the advice: the lowest card that keeps the worth, if there is one
abbrev pub advice : Table → Option ℕ
advice t = lowest_below (keeps t) deck

-- the number that there is, else 0
abbrev pub or_zero : Option ℕ → ℕ
or_zero None = 0
or_zero (Some c) = c

-- the card that is advised
abbrev pub advised : Table → ℕ
advised t = or_zero (advice t)

-- card c keeps worth v, over whole plays: what it leaves and what it gains are together v
abbrev pub Keeps : Table → ℕ → ℕ → Type 0
Keeps t v c = (gains t c ≤ v) × Worth (after t c) (v - gains t c)

-- adv advises a side: at each sound table with a trick left at which the side is to play, it names the lowest card that may be played and keeps the worth
pub record Advises (side : Bool) (adv : Table → ℕ) : Type 0 where
  pub legal : (t : Table) (n : ℕ) → Sound t n → our_turn t ≡ side → 0 < n → may t (adv t) ≡ true
  pub keeps : (t : Table) (n v : ℕ) → Sound t n → our_turn t ≡ side → 0 < n → Worth t v → Keeps t v (adv t)
  pub lowest : (t : Table) (n v c : ℕ) → Sound t n → our_turn t ≡ side → 0 < n → Worth t v → c < adv t → may t c ≡ true → Keeps t v c → ⊥

-- there is such advice, one for both sides
abbrev pub AdviceExists : Type 0
AdviceExists = (side : Bool) → Advises side advised

-- a whole play from t, in which a side goes by adv, the other plays any cards that may be played, and our side takes g tricks
pub data Played (side : Bool) (adv : Table → ℕ) : Table → ℕ → Type 0 where
  over : {t : Table} → ((c : ℕ) → may t c ≡ false) → Played side adv t 0
  by_advice : {t : Table} {g : ℕ} → our_turn t ≡ side → Played side adv (after t (adv t)) g → Played side adv t (gains t (adv t) + g)
  by_other : {t : Table} {g : ℕ} (c : ℕ) → our_turn t ≡ not side → may t c ≡ true → Played side adv (after t c) g → Played side adv t (gains t c + g)

-- g tricks for our side are, for a side, no worse than v
abbrev pub Pays : Bool → ℕ → ℕ → Type 0
Pays true v g = v ≤ g
Pays false v g = g ≤ v

-- who plays by the advice gets the worth, at least
abbrev pub AdvicePays : Type 0
AdvicePays = (side : Bool) (adv : Table → ℕ) (t : Table) (n v g : ℕ) → Advises side adv → Sound t n → Worth t v → Played side adv t g → Pays side v g
