-- The cards of a set are as many as the ones of its number. Assumes nothing.
use Rattle.std.proofs.Common.{◌≡◌, ℕ, zero, suc, ◌+◌, ◌*◌, ◌/◌, ◌%◌, ◌^◌, ◌<◌, eqb, sym, refl, ap, ◌∙◌, ap₂, arith}
use lib.Count.{ones, ones_cat}
use Rattle.std.proofs.lemmas.Nat.{pow_pos, pow-add, mod_below, div_below, shr_split}
use Rattle.std.proofs.lemmas.Nat.Bits.{bit_at_cat_low}
use Rattle.cards.specs.Table.{one, count}
use Rattle.cards.specs.Bits.{bit}
use Rattle.cards.proofs.CountLaws.{count_same}

-- the bits below n are those of the number's low part
low_bits : (h n x : ℕ) → x < n → bit h x ≡ bit (h % 2 ^ n) x
low_bits h n x l = ap (λ (m : ℕ). bit m x) (sym (shr_split h n)) ∙ ap (λ (d : ℕ). eqb d 1) (bit_at_cat_low (h / 2 ^ n) n (h % 2 ^ n) x l)

one_digit : (d : ℕ) → d < 2 → ones d ≡ one (eqb (d % 2) 1)
unfolding ones
one_digit zero l = refl
one_digit (suc zero) l = refl
one_digit (suc (suc d)) l = absurd (omega arith)

pub ones_count : (n h : ℕ) → h < 2 ^ n → ones h ≡ count (bit h) n
unfolding count
ones_count zero h l = let z : h ≡ 0 = omega arith in ap ones z ∙ one_digit 0 (omega arith)
ones_count (suc n) h l =
    let w : 2 ^ suc n ≡ 2 * 2 ^ n = ap (λ (k : ℕ). 2 ^ k) (let e : suc n ≡ 1 + n = omega arith in e) ∙ pow-add 2 1 n in
    let d : h / 2 ^ n < 2 = div_below h (2 ^ n) 2 (pow_pos n) (omega arith) in
    let r : h % 2 ^ n < 2 ^ n = mod_below h (2 ^ n) (pow_pos n) in
    ap ones (sym (shr_split h n)) ∙ ones_cat n (h / 2 ^ n) (h % 2 ^ n) r
    ∙ ap₂ (λ (a b : ℕ). a + b) (one_digit (h / 2 ^ n) d)
    (ones_count n (h % 2 ^ n) r ∙ count_same (bit (h % 2 ^ n)) (bit h) n (λ x k. sym (low_bits h n x k)))
