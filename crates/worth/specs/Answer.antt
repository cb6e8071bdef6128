-- What is answered to who asks for the worth of a table and lends memory for it. Assumes nothing: these are definitions.
use Rattle.std.specs.Prelude.{◌≡◌, ℕ, ◌≤◌, Bool, true, false, ⊤, ◌&&◌, List, length, replicate, Ok, Err, Result, ◌==◌, nat_lt}
use Rattle.cards.specs.Table.{Table}
use Rattle.cards.specs.Refusals.{number_of, place_of}
use Rattle.cards.specs.declared.refusal.Refusal.{Refusal}
use Rattle.tricks.specs.Plays.{Takes, Held, Worth}
use Rattle.worth.specs.Value.{worth_of}
use Rattle.worth.specs.Positions.{True}

-- can lent slices be used: there are slots, each with a key and a worth
abbrev pub usable : List ℕ → List ℕ → Bool
usable keys worths = nat_lt 0 (length keys) && length keys == length worths

-- the worth v of table t with n tricks left is told: the slices can be used; our side can take v of them whatever the others play,
-- the others can hold it to v, v is at most n, and only v is so; and what the slices hold afterwards is true
pub record Told (t : Table) (n : ℕ) (keys worths keys' worths' : List ℕ) (v : ℕ) : Type 0 where
  pub lent : usable keys worths ≡ true
  pub takes : Takes v t
  pub held : Held v t
  pub low : v ≤ n
  pub only : (w : ℕ) → Worth t w → w ≡ v
  pub value : v ≡ worth_of t
  pub kept : True t keys' worths'

-- there is a refusal, 11 at 2: the slices can't be used, and are as they were
pub record TurnedAway (keys worths keys' worths' : List ℕ) (e : Refusal) : Type 0 where
  pub lent : usable keys worths ≡ false
  pub number : number_of e ≡ 11
  pub place : place_of e ≡ 2
  pub same_keys : keys' ≡ keys
  pub same_worths : worths' ≡ worths

-- the slices are ready for a search from table t: they can be used, and each slot is empty, so that what they hold is true
pub record Ready (t : Table) (keys worths keys' worths' : List ℕ) : Type 0 where
  pub lent : usable keys worths ≡ true
  pub no_keys : keys' ≡ replicate (length keys) 0
  pub no_worths : worths' ≡ replicate (length worths) 0
  pub kept : True t keys' worths'

-- the slices are ready for it, and keys' and worths' afterwards, or there is a refusal
abbrev pub Prepared : Table → List ℕ → List ℕ → List ℕ → List ℕ → Result ⊤ Refusal → Type 0
Prepared t keys worths keys' worths' (Ok u) = Ready t keys worths keys' worths'
Prepared t keys worths keys' worths' (Err e) = TurnedAway keys worths keys' worths' e

-- the answer for table t with n tricks left and these slices, which are keys' and worths' afterwards
abbrev pub Judged : Table → ℕ → List ℕ → List ℕ → List ℕ → List ℕ → Result ℕ Refusal → Type 0
Judged t n keys worths keys' worths' (Ok v) = Told t n keys worths keys' worths' v
Judged t n keys worths keys' worths' (Err e) = TurnedAway keys worths keys' worths' e
