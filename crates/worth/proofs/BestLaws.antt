-- The best over a set of cards: card by card, that some card gives it and none gives better, and when two sets have the same. Assumes nothing.
use Rattle.std.proofs.Common.{◌≡◌, ℕ, zero, suc, ◌+◌, ◌<◌, ◌≤◌, Bool, true, false, ◌⊎◌, sym, refl, subst, inl, inr, add-one, arith}
use Rattle.std.proofs.lemmas.Bool.{cases_Bool, cases_lt}
use Rattle.cards.specs.Table.{Table}
use Rattle.tricks.specs.Rules.{our_turn, after, gains}
use Rattle.worth.specs.Value.{better, worst, best_below}

-- what our side has by card c, where v is the value of what comes after
abbrev pub by_card : (Table → ℕ) → Table → ℕ → ℕ
by_card v t c = gains t c + v (after t c)

-- a is no worse than b, for who is to play
abbrev pub NoWorse : Bool → ℕ → ℕ → Type 0
NoWorse true a b = b ≤ a
NoWorse false a b = a ≤ b

no_worse_self : (ours : Bool) (a : ℕ) → NoWorse ours a a
no_worse_self true a = omega arith
no_worse_self false a = omega arith

no_worse_both : (ours : Bool) (a b : ℕ) → NoWorse ours a b → NoWorse ours b a → a ≡ b
no_worse_both true a b h k = omega arith
no_worse_both false a b h k = omega arith

-- the better of two is one of them, and no worse than either
better_is : (ours : Bool) (a b : ℕ) → (better ours a b ≡ a) ⊎ (better ours a b ≡ b)
better_is true a b = elim (cases_lt a b) [ inl l ↦ inr (omega arith) | inr l ↦ inl (omega arith) ]
better_is false a b = elim (cases_lt a b) [ inl l ↦ inl (omega arith) | inr l ↦ inr (omega arith) ]

better_left : (ours : Bool) (a b c : ℕ) → NoWorse ours a c → NoWorse ours (better ours a b) c
better_left true a b c h = omega arith
better_left false a b c h = omega arith

better_right : (ours : Bool) (a b : ℕ) → NoWorse ours (better ours a b) b
better_right true a b = omega arith
better_right false a b = omega arith

module _ (set : ℕ → Bool) (v : Table → ℕ) (m : ℕ) (t : Table) where
  -- the best over the members below i
  abbrev best : ℕ → ℕ
  best i = best_below set v m t i

  -- over no cards the best is the worst
  pub best_none : best 0 ≡ worst (our_turn t) m
  unfolding best_below
  best_none = refl

  -- over one card more, which is in the set or not
  pub best_takes : (i : ℕ) → set i ≡ true → best (i + 1) ≡ better (our_turn t) (best i) (by_card v t i)
  unfolding best_below
  best_takes i y = rw (add-one, y)

  pub best_skips : (i : ℕ) → set i ≡ false → best (i + 1) ≡ best i
  unfolding best_below
  best_skips i y = rw (add-one, y)

  -- what holds of the best below i, and is kept by each member below j, holds of the best below j
  best_keeps : (P : ℕ → Type 0) (i j : ℕ) → i ≤ j → P (best i) → ((b c : ℕ) → c < j → set c ≡ true → P b → P (better (our_turn t) b (by_card v t c))) → P (best j)
  unfolding best_below
  best_keeps P i zero l a f = let e : i ≡ 0 = omega arith in subst (λ (k : ℕ). P (best k)) e a
  best_keeps P i (suc j) l a f = elim (cases_lt j i) [
    | inl k ↦ let e : i ≡ suc j = omega arith in subst (λ (x : ℕ). P (best x)) e a
    | inr k ↦
        let ih = best_keeps P i j k a (λ b c h. f b c (omega arith)) in
        elim (cases_Bool (set j)) [ inl y ↦ rw y (f (best j) j (omega arith) y ih) | inr y ↦ rw y ih ]
  ]

  -- what holds of the worst, and is kept by each member, holds of the best
  best_has : (P : ℕ → Type 0) (i : ℕ) → P (worst (our_turn t) m) → ((b c : ℕ) → c < i → set c ≡ true → P b → P (better (our_turn t) b (by_card v t c))) → P (best i)
  best_has P i a = best_keeps P 0 i (omega arith) (rw best_none a)

  -- no member gives better
  pub none_better : (i c : ℕ) → c < i → set c ≡ true → NoWorse (our_turn t) (best i) (by_card v t c)
  none_better i c l y =
      best_keeps (λ b. NoWorse (our_turn t) b (by_card v t c)) (c + 1) i (omega arith)
      (rw (best_takes c y) (better_right (our_turn t) (best c) (by_card v t c)))
      (λ b d _ _. better_left (our_turn t) b (by_card v t d) (by_card v t c))

  -- nor is the worst better
  worst_no_better : (i : ℕ) → NoWorse (our_turn t) (best i) (worst (our_turn t) m)
  worst_no_better i =
      best_has (λ b. NoWorse (our_turn t) b (worst (our_turn t) m)) i (no_worse_self (our_turn t) _) (λ b c _ _. better_left (our_turn t) b (by_card v t c) _)

  -- b is the worst, or what some member gives
  abbrev pub Given : ℕ → ℕ → Type 0
  Given i b = (b ≡ worst (our_turn t) m) ⊎ ((c : ℕ) × (c < i) × (set c ≡ true) × (b ≡ by_card v t c))

  pub best_given : (i : ℕ) → Given i (best i)
  best_given i = best_has (Given i) i (inl refl) (λ b c l y h. elim (better_is (our_turn t) b (by_card v t c)) [
    | inl e ↦ subst (Given i) (sym e) h
    | inr e ↦ inr (c, l, y, e)
  ])

-- each member of a set below i gives what some member of another gives
abbrev pub Matched : (ℕ → Bool) → (Table → ℕ) → (ℕ → Bool) → (Table → ℕ) → Table → ℕ → Type 0
Matched set v other w t i = (c : ℕ) → c < i → set c ≡ true → (d : ℕ) × (d < i) × (other d ≡ true) × (by_card v t c ≡ by_card w t d)

matched_no_better : (set : ℕ → Bool) (v : Table → ℕ) (other : ℕ → Bool) (w : Table → ℕ) (m : ℕ) (t : Table) (i : ℕ) → Matched set v other w t i →
    NoWorse (our_turn t) (best_below other w m t i) (best_below set v m t i)
matched_no_better set v other w m t i f = elim (best_given set v m t i) [
  | inl e ↦ rw e (worst_no_better other w m t i)
  | inr (c, l, y, e) ↦ let (d, k, z, q) = f c l y in rw (e, q) (none_better other w m t i d k z)
]

-- two sets that match each other have the same best
pub best_same : (set : ℕ → Bool) (v : Table → ℕ) (other : ℕ → Bool) (w : Table → ℕ) (m : ℕ) (t : Table) (i : ℕ) →
    Matched set v other w t i → Matched other w set v t i → best_below set v m t i ≡ best_below other w m t i
best_same set v other w m t i f g = no_worse_both (our_turn t) _ _ (matched_no_better other w set v m t i g) (matched_no_better set v other w m t i f)
