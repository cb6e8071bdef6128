-- A window, from low to high, and the worths found within it. Assumes nothing.
use Rattle.std.proofs.Common.{◌≡◌, ℕ, ◌+◌, ◌-◌, ◌<◌, ◌≤◌, min, max, Bool, true, false, eqb, sym, ap, ◌∙◌, arith}
use Rattle.std.proofs.lemmas.Bool.{ltb-true, eqb-true, eqb-false}
use Rattle.cards.specs.Table.{pick}
use Rattle.worth.specs.Value.{better, worst}
use Rattle.worth.specs.Search.{clamp, exact}
use Rattle.worth.specs.declared.window.Window.{Window}

-- what a window that is not closed has
pub still_open : (w : Window) (closed : Bool) → closed ≡ eqb w.low w.high → closed ≡ false → w.low < w.high
still_open w closed e f = omega (arith, eqb-false w.low w.high (sym e ∙ f))

-- within one number there is but that, and within all of n tricks every worth
pub clamp_one : (a b v : ℕ) → a ≡ b → a ≡ clamp a b v
clamp_one a b v e = omega arith

pub clamp_all : (n v : ℕ) → v ≤ n → clamp 0 n v ≡ v
clamp_all n v l = omega arith

-- the nearest to a worth is within
pub clamp_within : (low high v : ℕ) → low ≤ high → clamp low high (clamp low high v) ≡ clamp low high v
clamp_within low high v l = omega arith

-- a worth that is exact is no bound
pub clamp_exact : (low high n v w : ℕ) → w ≤ n → v ≡ clamp low high w → exact low high n v ≡ true → v ≡ w
clamp_exact low high n v w l e x = grind (arith, ltb-true, eqb-true)

-- with the worst of n tricks it has come to what is reached
pub clamp_worst : (ours : Bool) (low high n : ℕ) → low ≤ high → high ≤ n → pick ours low high ≡ clamp low high (worst ours n)
clamp_worst true low high n l k = omega arith
clamp_worst false low high n l k = omega arith

-- our side raises low and the others lower high to the nearest of v
pub lowered_least : (ours : Bool) (low high v : ℕ) → low ≤ high → pick ours high (clamp low high v) ≤ high
lowered_least true low high v l = omega arith
lowered_least false low high v l = omega arith

-- a card that brings v raises low or lowers high to the nearest of v
pub narrows : (ours : Bool) (low high b v : ℕ) → clamp low high (better ours b v) ≡ clamp (pick ours (clamp low high v) low) (pick ours high (clamp low high v)) b
narrows true low high b v = ap (max low) spread ∙ regroup (min high b) (min high v)
  where
    spread : min high (max b v) ≡ max (min high b) (min high v)
    spread = omega arith

    regroup : (x y : ℕ) → max low (max x y) ≡ max (max low y) x
    regroup x y = omega arith
narrows false low high b v = ap (max low) regroup ∙ under (min high v)
  where
    regroup : min high (min b v) ≡ min (min high v) b
    regroup = omega arith

    under : (y : ℕ) → max low (min y b) ≡ max low (min (max low y) b)
    under y = omega arith

-- a worth found within the window for what follows a gain, with m tricks left of n, is the nearest to what the card brings
pub found_is : (low high gain n m w : ℕ) → low < high → high ≤ n → n ≤ m + 1 → gain ≤ 1 → w ≤ m → gain + clamp (low - gain) (min (high - gain) m) w ≡ clamp low high (gain + w)
found_is low high gain n m w some most next small l = ap (λ (x : ℕ). gain + max (low - gain) x) short ∙ moved
  where
    short : min (min (high - gain) m) w ≡ min (high - gain) w
    short = omega arith

    moved : gain + max (low - gain) (min (high - gain) w) ≡ max low (min high (gain + w))
    moved = omega arith
