-- The highest card of a set, and the sets that are made of its bits. Assumes nothing.
use Rattle.std.proofs.Common.{◌≡◌, ℕ, zero, suc, ◌+◌, ◌-◌, ◌*◌, ◌/◌, ◌%◌, ◌^◌, ◌<◌, ◌≤◌, Bool, true, false, ◌&&◌, eqb, ltb, ◌⊎◌, Some, None, sym, refl, ap, ◌∙◌, subst, inl, inr, pow-suc, arith, lit<}
use mathlib.Core.Bool.{and-true}
use native.Mathlib.Nat.{div-eq_of_lt-le}
use lib.Count.{count_leading_zeros}
use Rattle.std.proofs.lemmas.Bool.{both_ways, lt-ltb, le-ltb, cases_lt, cases_eq, cases_Bool, and_right}
use Rattle.std.proofs.lemmas.Nat.{leading_top, pow_pos, pow_below, mod_below, mod-pow-add, field_of}
use Rattle.cards.specs.Table.{deck}
use Rattle.cards.specs.Bits.{bit}
use Rattle.cards.proofs.BitLaws.{bit_past}
use Rattle.equals.specs.Covered.{top}

-- p is the highest of the first n cards that is in the set
pub record IsTop (h : ℕ → Bool) (n p : ℕ) : Type 0 where
  pub under : p < n
  pub there : h p ≡ true
  pub past : (x : ℕ) → p < x → x < n → h x ≡ false

-- the search down from n: p is found, or there is none
pub top_is : (h : ℕ → Bool) (n p : ℕ) → IsTop h n p → top h n ≡ Some p
unfolding top
top_is h zero p t = absurd (omega (arith, t.under))
top_is h (suc n) p t = elim (cases_eq p n) [
  | inl e ↦ rw (subst (λ (k : ℕ). h k ≡ true) e t.there) (ap Some (sym e))
  | inr e ↦
      let l : p < n = omega (arith, t.under) in
      rw (t.past n l (omega arith)) (top_is h n p (record { under = l; there = t.there; past = λ x a b. t.past x a (omega arith) }))
]

pub top_none : (h : ℕ → Bool) (n : ℕ) → ((x : ℕ) → x < n → h x ≡ false) → top h n ≡ None
unfolding top
top_none h zero f = refl
top_none h (suc n) f = rw (f n (omega arith)) (top_none h n (λ x l. f x (omega arith)))

pub top_cases : (h : ℕ → Bool) (n : ℕ) → ((p : ℕ) × IsTop h n p) ⊎ ((x : ℕ) → x < n → h x ≡ false)
top_cases h zero = inr (λ x l. absurd (omega arith))
top_cases h (suc n) = elim (cases_Bool (h n)) [
  | inl e ↦ inl (n, record { under = omega arith; there = e; past = λ x a b. absurd (omega arith) })
  | inr e ↦ elim (top_cases h n) [
    | inl (p, t) ↦ inl (p, record { under = omega (arith, t.under); there = t.there; past = λ x a b. elim (cases_eq x n) [ inl q ↦ ap h q ∙ e | inr q ↦ t.past x a (omega arith) ] })
    | inr f ↦ inr (λ x l. elim (cases_eq x n) [ inl q ↦ ap h q ∙ e | inr q ↦ f x (omega arith) ])
  ]
]

pub some_top : (h : ℕ → Bool) (n p : ℕ) → Some p ≡ top h n → IsTop h n p
some_top h n p e = elim (top_cases h n) [
  | inl (q, t) ↦ let f = top_is h n q t in let s : q ≡ p = cc in subst (IsTop h n) s t
  | inr f ↦ let g = top_none h n f in let z : ◌≡◌ {A = ℕ} 0 1 = cc in absurd (omega arith)
]

pub no_top : (h : ℕ → Bool) (n : ℕ) → None ≡ top h n → (x : ℕ) → x < n → h x ≡ false
no_top h n e = elim (top_cases h n) [
  | inl (q, t) ↦ let f = top_is h n q t in let z : ◌≡◌ {A = ℕ} 0 1 = cc in absurd (omega arith)
  | inr f ↦ f
]

-- the highest bit of a number
top_bit : (a j : ℕ) → 2 ^ j ≤ a → a < 2 ^ suc j → bit a j ≡ true
top_bit a j low high =
    let one : a / 2 ^ j ≡ 1 = div-eq_of_lt-le {k = 1} (2 ^ j) (omega arith) (omega (arith, pow-suc 2 j)) in
    ap (λ (x : ℕ). eqb (x % 2) 1) one

-- the highest card by the zeros that lead the bits
pub record Led (a : ℕ) : Type 0 where
  pub card : 63 - count_leading_zeros 64 a < deck
  pub is : Some (63 - count_leading_zeros 64 a) ≡ top (bit a) deck

pub led_by_zeros : (a : ℕ) → (a ≡ 0 → ⊥) → a < 2 ^ deck → Led a
led_by_zeros a some low =
    let (j, long, least, most) = leading_top 64 a (omega arith) (omega (arith, pow_below deck 64 (lit< tt))) in
    let there = top_bit a j least most in
    let under : j < deck = elim (cases_lt j deck) [ inl l ↦ l | inr l ↦ absurd (both_ways _ (bit_past a j deck low l) there) ] in
    let number : 63 - count_leading_zeros 64 a ≡ j = omega arith in
    let found = top_is (bit a) deck j (record { under = under; there = there; past = λ x l _. bit_past a x (suc j) most (omega arith) }) in
    record { card = omega arith; is = ap Some number ∙ sym found }

-- the lowest bit of what is left below a power of two
low_mod : (y m : ℕ) → 0 < m → y % 2 ^ m % 2 ≡ y % 2
low_mod y m l =
    let e : m ≡ (m - 1) + 1 = omega arith in
    let s : y % 2 ^ m ≡ (y / 2 ^ 1 % 2 ^ (m - 1)) * 2 ^ 1 + y % 2 ^ 1 = ap (λ (k : ℕ). y % 2 ^ k) e ∙ mod-pow-add y (m - 1) 1 in
    omega arith

-- the bits below a place
pub bit_low : (a n x : ℕ) → bit (a % 2 ^ n) x ≡ (bit a x && ltb x n)
bit_low a n x = elim (cases_lt x n) [
  | inl l ↦
      let e : (n - x) + x ≡ n = omega arith in
      let f : a % 2 ^ n / 2 ^ x ≡ a / 2 ^ x % 2 ^ (n - x) = ap (λ (k : ℕ). a % 2 ^ k / 2 ^ x) (sym e) ∙ field_of a (n - x) x in
      ap (λ (y : ℕ). eqb (y % 2) 1) f
      ∙ ap (λ (y : ℕ). eqb y 1) (low_mod (a / 2 ^ x) (n - x) (omega arith))
      ∙ sym (ap (λ (b : Bool). bit a x && b) (lt-ltb x n l) ∙ and-true (bit a x))
  | inr l ↦ bit_past (a % 2 ^ n) x n (mod_below a (2 ^ n) (pow_pos n)) l ∙ sym (and_right _ _ (le-ltb x n l))
]
