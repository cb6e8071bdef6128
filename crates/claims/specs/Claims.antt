-- A claim of k of the n tricks left, by either side: what it says over whole plays, and when it is upheld. Assumes nothing: these are definitions.
use Rattle.std.specs.Prelude.{◌≡◌, ℕ, suc, ◌-◌, ◌<◌, ◌≤◌, Bool, true, false, not, ◌&&◌, ◌⊎◌, Decides, nat_le}
use Rattle.cards.specs.Table.{Table, Sound}
use Rattle.tricks.specs.Plays.{Takes, Held}
use Rattle.worth.specs.Value.{worth_of}

-- a side is true for ours, players 0 and 2, and false for the others; it is to play where `our_turn t` is the side

-- the side can take k of the n tricks left, whatever the other plays: ours takes them, or the others hold ours to the rest
abbrev pub Can : Bool → ℕ → ℕ → Table → Type 0
Can true n k t = Takes k t
Can false n k t = (k ≤ n) × Held (n - k) t

-- the other side can keep it from them: ours is held to fewer, or there are not so many, or ours takes one more than the rest
abbrev pub Cannot : Bool → ℕ → ℕ → Table → Type 0
Cannot true n k t = (j : ℕ) × (suc j ≡ k) × Held j t
Cannot false n k t = (n < k) ⊎ Takes (suc (n - k)) t

-- a claim holds or fails, and never both
abbrev pub Claim : Type 0
Claim = (t : Table) (n : ℕ) → Sound t n → (side : Bool) (k : ℕ) → (Can side n k t ⊎ Cannot side n k t) × (Can side n k t → Cannot side n k t → ⊥)

-- is the claim upheld, by the worth alone: v of the n tricks are ours
abbrev pub upheld : Bool → ℕ → ℕ → ℕ → Bool
upheld true n k v = nat_le k v
upheld false n k v = nat_le k n && nat_le v (n - k)

-- what is upheld is what the side can take
abbrev pub UpheldIsCan : Type 0
UpheldIsCan = (t : Table) (n : ℕ) → Sound t n → (side : Bool) (k : ℕ) → Decides (upheld side n k (worth_of t)) (Can side n k t)

-- what is not upheld is what it cannot
abbrev pub RefusedIsCannot : Type 0
RefusedIsCannot = (t : Table) (n : ℕ) → Sound t n → (side : Bool) (k : ℕ) → Decides (not (upheld side n k (worth_of t))) (Cannot side n k t)
