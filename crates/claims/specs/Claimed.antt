-- A claim as numbers: its side and its tricks, and which numbers make one. Assumes nothing: these are definitions.
use Rattle.std.specs.Prelude.{◌≡◌, ℕ, Bool, true, false, ◌&&◌, Ok, Err, Result, nat_le, nat_lt}
use Rattle.cards.specs.Table.{pick}
use Rattle.cards.specs.Refusals.{number_of, place_of}
use Rattle.cards.specs.declared.refusal.Refusal.{Refusal}
use Rattle.claims.specs.declared.claim.Claim.{Claim}
use Rattle.claims.specs.declared.claim.Claim.TheVariants.{Ours, Others}

-- the side that claims, true for ours
abbrev pub claims_side : Claim → Bool
claims_side (Ours k) = true
claims_side (Others k) = false

-- the tricks that it claims
abbrev pub claims_tricks : Claim → ℕ
claims_tricks (Ours k) = k
claims_tricks (Others k) = k

-- are these numbers a claim: of side 0, ours, or 1, the others, and of no more tricks than are left
abbrev pub claimable : ℕ → ℕ → ℕ → Bool
claimable side tricks left = nat_lt side 2 && nat_le tricks left

-- the claim that the numbers make
pub record Made (side tricks left : ℕ) (c : Claim) : Type 0 where
  pub claimed : claimable side tricks left ≡ true
  pub by : pick (claims_side c) 0 1 ≡ side
  pub many : claims_tricks c ≡ tricks

-- the numbers make none: a refusal, 10 at 0
pub record NoClaim (side tricks left : ℕ) (e : Refusal) : Type 0 where
  pub claimed : claimable side tricks left ≡ false
  pub number : number_of e ≡ 10
  pub place : place_of e ≡ 0

-- the answer for these numbers
abbrev pub Claimed : ℕ → ℕ → ℕ → Result Claim Refusal → Type 0
Claimed side tricks left (Ok c) = Made side tricks left c
Claimed side tricks left (Err e) = NoClaim side tricks left e
