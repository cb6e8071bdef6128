-- What the parts of the reader hand on. Assumes nothing: these are definitions.
use Rattle.std.specs.Prelude.{◌≡◌, ℕ, ◌<◌, List, length, Some, None, Option, Ok, Err, Result, slice_index}
use Rattle.cards.specs.Table.{deck, count}
use Rattle.cards.specs.Bits.{bit}
use Rattle.cards.specs.Deal.{number_byte, cards_of, before, has}
use Rattle.cards.specs.Refusals.{number_of, place_of, lent_place}
use Rattle.cards.specs.declared.refusal.Refusal.{Refusal}
use Rattle.cards.specs.declared.refusal.Lent.{Lent}

-- the answer of the check by number n: what it hands on, where it found no fault, or its refusal at the place of the first
abbrev pub Says : {X : Type 0} → ℕ → Result X Refusal → Option ℕ → (X → Type 0) → Type 0
Says n (Ok x) o P = (o ≡ None) × P x
Says n (Err e) o P = (number_of e ≡ n) × (o ≡ Some (place_of e))

-- the place of what is too short, if something is
abbrev pub short : {X : Type 0} → Result X Lent → Option ℕ
short (Ok x) = None
short (Err l) = Some (lent_place l)

-- a set of cards is those of a list, each once
pub record Gathered (cs : List ℕ) (set : ℕ) : Type 0 where
  pub holds : (x : ℕ) → bit set x ≡ has cs x
  pub many : count (bit set) deck ≡ length cs

-- the hands of the first n players, as bits, and all cards that stand before those of player n
pub record Dealt (bs : List ℕ) (n : ℕ) (hands : List ℕ) (taken : ℕ) : Type 0 where
  pub four : length hands ≡ 4
  pub all : (x : ℕ) → bit taken x ≡ has (before bs n) x
  pub each : (p : ℕ) → p < n → (x : ℕ) → bit (slice_index hands p) x ≡ has (cards_of bs p) x
  pub many : (p : ℕ) → p < n → count (bit (slice_index hands p)) deck ≡ number_byte bs p
