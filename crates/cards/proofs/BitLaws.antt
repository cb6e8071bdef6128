-- The bits of a set of cards, with one put in or taken out. Assumes nothing.
use Rattle.std.proofs.Common.{◌≡◌, ℕ, ◌-◌, ◌*◌, ◌%◌, ◌^◌, ◌<◌, ◌≤◌, min, ◌⊎◌, false, not, ◌&&◌, ◌||◌, eqb, ap, inl, inr, arith}
use mir.Syntax.{w64}
use lib.Bits.{bit_and, bit_or}
use Rattle.std.proofs.lemmas.Nat.{pow_below, one_shl}
use Rattle.std.proofs.lemmas.Nat.Bits.{bit_at-lt, bit_at-zero, bit_at_above, bit_at_and, bit_at_or, bit_at_not, bit_at-pow_same, bit_at-pow_other}
use Rattle.std.proofs.lemmas.Bool.{cases_lt}
use Rattle.std.proofs.lemmas.Bool.Decides.{nat_tests}
use Rattle.cards.specs.Table.{deck}
use Rattle.cards.specs.Bits.{bit}

pub bit-and : (a b c : ℕ) → bit (bit_and a b) c ≡ (bit a c && bit b c)
bit-and a b c = grind (arith, nat_tests, bit_at_and a b c, bit_at-lt a c, bit_at-lt b c)

pub bit-or : (a b c : ℕ) → bit (bit_or a b) c ≡ (bit a c || bit b c)
bit-or a b c = grind (arith, nat_tests, bit_at_or a b c, bit_at-lt a c, bit_at-lt b c)

-- what lies past a number's bits
pub bit_past : (h c k : ℕ) → h < 2 ^ k → k ≤ c → bit h c ≡ false
bit_past h c k p q = ap (λ (x : ℕ). eqb x 1) (bit_at_above h k c p q)

pub bit_zero : (c : ℕ) → bit 0 c ≡ false
bit_zero c = ap (λ (x : ℕ). eqb x 1) (bit_at-zero c)

-- 1 << c at 64 bits is the set of card c alone
pub bit_single : (c d : ℕ) → c < deck → bit ((1 * 2 ^ c) % 18446744073709551616) d ≡ eqb d c
bit_single c d l = rw (one_shl c 64 (omega arith)) (grind (arith, nat_tests, bit_at-pow_same c, bit_at-pow_other c d))

pub single_low : (c : ℕ) → c < deck → (1 * 2 ^ c) % 18446744073709551616 < 2 ^ deck
single_low c l = rw (one_shl c 64 (omega arith)) (pow_below c deck l)

-- the cards of one set that are not in another, h & !k at 64 bits
both_bits : (x y z n : ℕ) → z ≡ min x n → x < 2 → y < 2 → n < 2 → (x ≡ 0) ⊎ (n ≡ 1 - y) → eqb z 1 ≡ (eqb x 1 && not (eqb y 1))
both_bits x y z n e k l m o = grind (arith, nat_tests)

pub bit_minus : (h k d : ℕ) → h < 2 ^ deck → k < 2 ^ deck → bit (bit_and h (18446744073709551615 - k)) d ≡ (bit h d && not (bit k d))
bit_minus h k d p q =
    let n : ℕ = 18446744073709551615 - k in
    both_bits _ _ _ _ (bit_at_and h n d) (bit_at-lt h d) (bit_at-lt k d) (bit_at-lt n d)
    (elim (cases_lt d 64) [ inl l ↦ inr (bit_at_not w64 k d (omega arith) l) | inr l ↦ inl (bit_at_above h deck d p (omega arith)) ])
