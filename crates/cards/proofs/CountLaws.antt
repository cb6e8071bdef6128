-- How many cards a set has, with one put in or taken out. Assumes nothing.
use Rattle.std.proofs.Common.{◌≡◌, ℕ, zero, suc, ◌+◌, ◌<◌, Bool, true, false, not, ◌&&◌, ◌||◌, eqb, refl, ap, ◌∙◌, ap₂, inl, inr, arith}
use Rattle.std.proofs.lemmas.Bool.{eq-eqb, eqb-true, or_right, cases_eq, cases_Bool}
use Rattle.std.proofs.lemmas.Bool.Decides.{nat_tests}
use Rattle.cards.specs.Table.{one, count}

pub or_false : (b : Bool) → (b || false) ≡ b
or_false true = refl
or_false false = refl

pub count_same : (h k : ℕ → Bool) (n : ℕ) → ((x : ℕ) → x < n → h x ≡ k x) → count h n ≡ count k n
unfolding count
count_same h k zero e = refl
count_same h k (suc n) e = ap₂ (λ (a : Bool) (b : ℕ). one a + b) (e n (omega arith)) (count_same h k n (λ x l. e x (omega arith)))

pub count_none : (h : ℕ → Bool) (n : ℕ) → ((x : ℕ) → h x ≡ false) → count h n ≡ 0
unfolding count
count_none h zero e = refl
count_none h (suc n) e = ap₂ (λ (b : Bool) (m : ℕ). one b + m) (e n) (count_none h n e)

-- a hand without card c
abbrev pub taken_out : (ℕ → Bool) → ℕ → ℕ → Bool
taken_out h c x = h x && not (eqb x c)

out_same : (h : ℕ → Bool) (c x : ℕ) → (x ≡ c → ⊥) → taken_out h c x ≡ h x
out_same h c x ne = grind (arith, nat_tests)

-- a card taken out is one card fewer
pub count_out : (h : ℕ → Bool) (c n : ℕ) → c < n → h c ≡ true → count (taken_out h c) n + 1 ≡ count h n
unfolding count
count_out h c zero l e = absurd (omega arith)
count_out h c (suc n) l e = elim (cases_eq n c) [
  | inl q ↦
      let low : count (taken_out h c) n ≡ count h n = count_same (taken_out h c) h n (λ x m. out_same h c x (λ r. omega arith)) in
      grind (arith, nat_tests)
  | inr q ↦ rw (out_same h c n q) (omega (arith, count_out h c n (omega arith) e))
]

-- one card more
put_back : (b d : Bool) → (d ≡ true → b ≡ false) → ((b || d) && not d) ≡ b
put_back b d f = grind (arith, cases_Bool b, cases_Bool d)

pub count_in : (h : ℕ → Bool) (c n : ℕ) → c < n → h c ≡ false → count (λ x. h x || eqb x c) n ≡ count h n + 1
count_in h c n l e =
    let more : ℕ → Bool = λ x. h x || eqb x c in
    omega (arith, count_out more c n l (or_right (h c) _ (eq-eqb c c refl)), count_same (taken_out more c) h n (λ x m. put_back (h x) (eqb x c) (λ t. ap h (eqb-true x c t) ∙ e)))

-- a hand of some cards has one of them
pub count_some : (h : ℕ → Bool) (n : ℕ) → 0 < count h n → (c : ℕ) × (c < n) × (h c ≡ true)
unfolding count
count_some h zero l = absurd (omega arith)
count_some h (suc n) l = grind (arith, nat_tests, count_some h n, cases_Bool (h n))

-- a hand that has a card has some
pub count_pos : (h : ℕ → Bool) (c n : ℕ) → c < n → h c ≡ true → 0 < count h n
count_pos h c n l e = omega (arith, count_out h c n l e)
