-- A search for a suit, card by card. Assumes nothing.
use Rattle.std.proofs.Common.{◌≡◌, ℕ, zero, suc, ◌+◌, ◌<◌, Bool, true, false, ◌&&◌, eqb, add-one, arith}
use Rattle.std.proofs.lemmas.Bool.Decides.{nat_tests}
use Rattle.cards.specs.Table.{has_suit, suit}

-- one card more that is not of the suit, or not in the hand
pub none_more : (h : ℕ → Bool) (s n : ℕ) → has_suit h s n ≡ false → (h n && eqb (suit n) s) ≡ false → has_suit h s (n + 1) ≡ false
unfolding has_suit
none_more h s n p q = rw (add-one, q) p

-- one that is
pub some_at : (h : ℕ → Bool) (s n k : ℕ) → k < n → (h k && eqb (suit k) s) ≡ true → has_suit h s n ≡ true
unfolding has_suit
some_at h s zero k l p = absurd (omega arith)
some_at h s (suc n) k l p = grind (arith, nat_tests, some_at h s n k)
