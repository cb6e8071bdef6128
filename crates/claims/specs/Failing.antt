-- What a card does to a claim of k of the n tricks left: whether it makes the claim fail, and the lowest card that does. Assumes nothing: these are definitions.
use Rattle.std.specs.Prelude.{◌≡◌, ℕ, ◌-◌, ◌<◌, Bool, true, false, not, ◌&&◌, length, Some, None, Decides, Option, ◌==◌}
use Rattle.cards.specs.Table.{Table, one, deck, Sound}
use Rattle.tricks.specs.Rules.{our_turn, may, after, gains}
use Rattle.tricks.specs.Statements.{left_after}
use Rattle.worth.specs.Value.{worth_of}
use Rattle.claims.specs.Claims.{Cannot, upheld}
use Rattle.claims.specs.Advice.{lowest_below, worth_by, advised}

-- is the claim upheld after card c, with what c gains counted
abbrev pub upheld_after : Bool → ℕ → ℕ → Table → ℕ → Bool
upheld_after side n k t c = upheld side n k (worth_by t c)

-- does card c, which may be played, make the claim fail
abbrev pub fails : Bool → ℕ → ℕ → Table → ℕ → Bool
fails side n k t c = may t c && not (upheld_after side n k t c)

-- the lowest card that makes it fail, if there is one
abbrev pub failing : Bool → ℕ → ℕ → Table → Option ℕ
failing side n k t = lowest_below (fails side n k t) deck

-- the tricks that a side takes by card c: those that it ends and the other does not take
abbrev pub takes_by : Bool → Table → ℕ → ℕ
takes_by true t c = gains t c
takes_by false t c = one (length t.trick == 3) - gains t c

-- the same over whole plays: after card c the side cannot take what is left of its claim
abbrev pub Fails : Bool → ℕ → ℕ → Table → ℕ → Type 0
Fails side n k t c = (may t c ≡ true) × Cannot side (left_after t n) (k - takes_by side t c) (after t c)

abbrev pub FailsIs : Type 0
FailsIs = (t : Table) (n : ℕ) → Sound t n → (side : Bool) (k c : ℕ) → Decides (fails side n k t c) (Fails side n k t c)

-- where the other side is to play and a trick is left, what is not upheld some card makes fail, and what is upheld none does
abbrev pub RefusedByCard : Type 0
RefusedByCard = (t : Table) (n : ℕ) → Sound t n → 0 < n → (side : Bool) (k : ℕ) → our_turn t ≡ not side → upheld side n k (worth_of t) ≡ false →
    (c : ℕ) × (failing side n k t ≡ Some c) × (fails side n k t c ≡ true) × ((d : ℕ) → d < c → fails side n k t d ≡ false)

abbrev pub UpheldStays : Type 0
UpheldStays = (t : Table) (n : ℕ) → Sound t n → (side : Bool) (k : ℕ) → our_turn t ≡ not side → upheld side n k (worth_of t) ≡ true →
    (failing side n k t ≡ None) × ((c : ℕ) → may t c ≡ true → upheld_after side n k t c ≡ true)

-- where the side itself is to play, what is not upheld no card mends, and what is upheld the card advised keeps
abbrev pub RefusedStays : Type 0
RefusedStays = (t : Table) (n : ℕ) → Sound t n → (side : Bool) (k : ℕ) → our_turn t ≡ side → upheld side n k (worth_of t) ≡ false →
    (c : ℕ) → may t c ≡ true → upheld_after side n k t c ≡ false

abbrev pub UpheldByAdvice : Type 0
UpheldByAdvice = (t : Table) (n : ℕ) → Sound t n → 0 < n → (side : Bool) (k : ℕ) → our_turn t ≡ side → upheld side n k (worth_of t) ≡ true →
    (may t (advised t) ≡ true) × (upheld_after side n k t (advised t) ≡ true)
