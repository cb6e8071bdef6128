-- A trick in which nobody has a choice: with one card each, its worth is a trick if our side wins it, else none. Assumes nothing.
use Rattle.std.proofs.Common.{◌≡◌, ℕ, zero, suc, ◌+◌, ◌-◌, ◌%◌, ◌<◌, ◌≤◌, true, false, eqb, [], ◌∷◌, sym, refl, subst, inl, inr, arith}
use Rattle.std.proofs.lemmas.Bool.{eq-eqb, eqb-true, cases_Bool, and_parts, and_left, and_right}
use Rattle.cards.specs.Table.{Table, one, deck}
use Rattle.tricks.specs.Rules.{turn, our_turn, may, best, winner, without, after, gains}
use Rattle.tricks.specs.Plays.{Takes, none, we_play, they_play, Held, out_of_cards, they_do, we_do, Worth}
use Rattle.tricks.specs.Statements.{one_card_each, Worked}
use Rattle.cards.proofs.CountLaws.{count_pos}
use Rattle.tricks.proofs.CountLaws.{without_own}
use Rattle.tricks.proofs.MayLaws.{may_parts, may_from, some_follows}

-- where only one card may be played, the worth is what it gains and the worth after it
forced : (t : Table) (c v w : ℕ) → may t c ≡ true → ((d : ℕ) → may t d ≡ true → d ≡ c) → gains t c + w ≡ v → Worth (after t c) w → Worth t v
forced t c v w m only e (r, h) =
    let left : (d : ℕ) → may t d ≡ true → w ≡ v - gains t d = λ d k. subst (λ (x : ℕ). w ≡ v - gains t x) (sym (only d k)) (omega arith) in
    let gain : (d : ℕ) → may t d ≡ true → gains t d ≤ v = λ d k. subst (λ (x : ℕ). gains t x ≤ v) (sym (only d k)) (omega arith) in
    let takes : (d : ℕ) → may t d ≡ true → Takes (v - gains t d) (after t d) =
    λ d k. subst (λ (x : ℕ). Takes x (after t d)) (left d k) (subst (λ (x : ℕ). Takes w (after t x)) (sym (only d k)) r) in
    let held : (d : ℕ) → may t d ≡ true → Held (v - gains t d) (after t d) =
    λ d k. subst (λ (x : ℕ). Held x (after t d)) (left d k) (subst (λ (x : ℕ). Held w (after t x)) (sym (only d k)) h) in
    elim (cases_Bool (our_turn t)) [
      | inl o ↦ (we_play c o m (takes c m), we_do c o m gain held)
      | inr o ↦ (they_play c o m takes, they_do c o m (gain c m) (held c m))
    ]

-- so it is where a hand has only one card
only_card : (t : Table) (c v w : ℕ) → c < deck → t.hand (turn t) c ≡ true → ((x : ℕ) → t.hand (turn t) x ≡ true → x ≡ c) →
    gains t c + w ≡ v → Worth (after t c) w → Worth t v
only_card t c v w l h o =
    let (x, _, k, f) = some_follows (t.hand (turn t)) t.trick (count_pos (t.hand (turn t)) c deck l h) in
    forced t c v w (may_from t c (record { card = l; owned = h; goes = rw (o x k) at f })) (λ d m. o d (may_parts t d m).owned)

-- where the player to play has no card, no trick is left
no_cards : (t : Table) → ((x : ℕ) → t.hand (turn t) x ≡ false) → Worth t 0
no_cards t f = (none, out_of_cards (λ x. and_left _ _ (and_right _ _ (f x))))

-- who plays its only card has none left
played_out : (t : Table) (c x : ℕ) → ((y : ℕ) → t.hand (turn t) y ≡ true → y ≡ c) → without t c (turn t) x ≡ false
played_out t c x o = elim (cases_Bool (t.hand (turn t) x)) [
  | inl h ↦ rw (o x h) (without_own t c (turn t) refl)
  | inr h ↦ and_left _ _ h
]

module _ (a b c d : ℕ) (la : a < deck) (lb : b < deck) (lc : c < deck) (ld : d < deck) where
  -- the table before the first card, and after each
  abbrev t₀ : Table
  t₀ = one_card_each a b c d

  abbrev t₁ : Table
  t₁ = after t₀ a

  abbrev t₂ : Table
  t₂ = after t₁ b

  abbrev t₃ : Table
  t₃ = after t₂ c

  abbrev t₄ : Table
  t₄ = after t₃ d

  -- the tricks for our side: one if it wins this trick
  abbrev ours : ℕ
  ours = one (eqb (winner t₀ (a ∷ b ∷ c ∷ d ∷ []) % 2) 0)

  -- each player's card is its only one when its turn comes
  only_a : (x : ℕ) → t₀.hand 0 x ≡ true → x ≡ a
  only_a x h = eqb-true x a h

  only_b : (x : ℕ) → t₁.hand 1 x ≡ true → x ≡ b
  unfolding after
  only_b x h = eqb-true x b (and_parts (t₀.hand 1 x) _ h).0

  only_c : (x : ℕ) → t₂.hand 2 x ≡ true → x ≡ c
  unfolding after
  only_c x h = eqb-true x c (and_parts (t₀.hand 2 x) _ (and_parts (t₁.hand 2 x) _ h).0).0

  only_d : (x : ℕ) → t₃.hand 3 x ≡ true → x ≡ d
  unfolding after
  only_d x h = eqb-true x d (and_parts (t₀.hand 3 x) _ (and_parts (t₁.hand 3 x) _ (and_parts (t₂.hand 3 x) _ h).0).0).0

  -- after the trick nobody has a card
  emptied : (p x : ℕ) → p < 4 → t₄.hand p x ≡ false
  unfolding after
  emptied zero x l = and_left (t₃.hand 0 x) _ (and_left (t₂.hand 0 x) _ (and_left (t₁.hand 0 x) _ (played_out t₀ a x only_a)))
  emptied (suc zero) x l = and_left (t₃.hand 1 x) _ (and_left (t₂.hand 1 x) _ (played_out t₁ b x only_b))
  emptied (suc (suc zero)) x l = and_left (t₃.hand 2 x) _ (played_out t₂ c x only_c)
  emptied (suc (suc (suc zero))) x l = played_out t₃ d x only_d
  emptied (suc (suc (suc (suc p)))) x l = absurd (omega arith)

  -- the worth before each card, from the fourth to the first
  fourth : Worth t₃ ours
  unfolding after gains winner
  fourth = only_card t₃ d ours 0 ld (rw (eq-eqb d d refl) refl) only_d (omega arith) (no_cards t₄ (λ x. emptied (turn t₄) x (omega arith)))

  third : Worth t₂ ours
  unfolding after gains
  third = only_card t₂ c ours ours lc (rw (eq-eqb c c refl) refl) only_c (omega arith) fourth

  second : Worth t₁ ours
  unfolding after gains
  second = only_card t₁ b ours ours lb (rw (eq-eqb b b refl) refl) only_b (omega arith) third

  one_trick : Worth t₀ ours
  unfolding gains
  one_trick = only_card t₀ a ours ours la (rw (eq-eqb a a refl) refl) only_a (omega arith) second

pub worked : Worked
unfolding winner best
worked =
    (one_trick 51 50 49 48 (omega arith) (omega arith) (omega arith) (omega arith), one_trick 39 50 49 48 (omega arith) (omega arith) (omega arith) (omega arith))
