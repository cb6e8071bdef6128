-- Twins by each card between them, and the lowest of the cards that are as good as each other. Assumes nothing.
use Rattle.std.proofs.Common.{◌≡◌, ℕ, zero, suc, ◌+◌, ◌%◌, ◌<◌, ◌≤◌, Bool, true, false, not, ◌&&◌, ◌||◌, eqb, ltb, Decides, sym, refl, ap, ◌∙◌, ap₂, inl, inr, arith}
use mathlib.Core.Path.{fun_ext}
use mathlib.Core.Bool.{or_assoc}
use Rattle.std.proofs.lemmas.Bool.{both_ways, eqb-true, eq-eqb, ltb-true, lt-ltb, not-true, not_from_false, cases_Bool, cases_order, and_from, and_parts, and_left, or_cases, or_left, or_right}
use Rattle.std.proofs.lemmas.Bool.Decides.{Decides-below_and, Decides-below_or}
use Rattle.cards.specs.Table.{Table, deck, suit, Sound}
use Rattle.cards.proofs.CountLaws.{or_false}
use Rattle.tricks.specs.Rules.{turn, may}
use Rattle.tricks.proofs.MayLaws.{may_parts}
use Rattle.equals.specs.Equals.{on, in_play, AsGoodAs}
use Rattle.equals.specs.Lowest.{own_between, twins, twin_among, lowest}
use Rattle.equals.specs.Covered.{seen_in_play, lower, is_in, covered}
use Rattle.equals.specs.Serves.{Serves}
use Rattle.equals.proofs.Swap.{same_tests, held_in_play}
use Rattle.equals.proofs.Row.{may_suit, as_good_refl, as_good_trans, row_as_good}
use Rattle.equals.proofs.TopLaws.{IsTop, top_is, top_none, top_cases}

-- one player further round
spin : (a b c d : Bool) → (a || (b || (c || d))) ≡ (b || (c || (d || a)))
spin true b c d = sym (or_right b _ (or_right c _ (or_right d true refl)))
spin false b c d = ap (λ (z : Bool). b || (c || z)) (sym (or_false d))

-- what one of the four has, from whichever of them on
round : (h : ℕ → Bool) (p : ℕ) → p < 4 → (h 0 || (h 1 || (h 2 || h 3))) ≡ (h p || (h ((p + 1) % 4) || (h ((p + 2) % 4) || h ((p + 3) % 4))))
round h zero l = refl
round h (suc zero) l = spin (h 0) (h 1) (h 2) (h 3)
round h (suc (suc zero)) l = spin (h 0) (h 1) (h 2) (h 3) ∙ spin (h 1) (h 2) (h 3) (h 0)
round h (suc (suc (suc zero))) l = spin (h 0) (h 1) (h 2) (h 3) ∙ spin (h 1) (h 2) (h 3) (h 0) ∙ spin (h 2) (h 3) (h 0) (h 1)
round h (suc (suc (suc (suc p)))) l = absurd (omega arith)

seen_is : (t : Table) (x : ℕ) → seen_in_play t x ≡ in_play t x
seen_is t x =
    let h : ℕ → Bool = λ p. t.hand p x in
    ap (λ (b : Bool). b || on x t.trick) (sym (round h (turn t) (omega arith)) ∙ sym (or_assoc (h 0) (h 1) (h 2 || h 3)))
    ∙ or_assoc (h 0 || h 1) (h 2 || h 3) (on x t.trick)

-- one card does not lie between, or is not in play, or is the player's own
abbrev harmless : Table → ℕ → ℕ → ℕ → Bool
harmless t c d x = not (ltb c x && ltb x d) || (not (in_play t x) || t.hand (turn t) x)

decides_row : (t : Table) (c d n : ℕ) → Decides (own_between t c d n) ((x : ℕ) → x < n → harmless t c d x ≡ true)
unfolding own_between
decides_row t c d = Decides-below_and (harmless t c d) (λ x. harmless t c d x ≡ true) (own_between t c d) (λ x. ((λ e. e), (λ e. e))) refl (λ n. refl)

-- twins by each card between them
abbrev Row : Table → ℕ → ℕ → Type 0
Row t c d = (x : ℕ) → c < x → x < d → in_play t x ≡ true → t.hand (turn t) x ≡ true

harmless_from : (t : Table) (c d : ℕ) → Row t c d → (x : ℕ) → harmless t c d x ≡ true
harmless_from t c d row x = elim (cases_Bool (ltb c x && ltb x d)) [
  | inr e ↦ or_left _ _ (not_from_false _ e)
  | inl e ↦
      let (a, b) = and_parts _ _ e in
      let own : (not (in_play t x) || t.hand (turn t) x) ≡ true = elim (cases_Bool (in_play t x)) [
        | inl i ↦ or_right _ _ (row x (ltb-true _ _ a) (ltb-true _ _ b) i)
        | inr i ↦ or_left _ _ (not_from_false _ i)
      ] in
      or_right _ _ own
]

twins_from : (t : Table) (c d : ℕ) → suit c ≡ suit d → Row t c d → twins t c d ≡ true
twins_from t c d e row = and_from _ _ (eq-eqb _ _ e) ((decides_row t c d deck).1 (λ x l. harmless_from t c d row x))

twins_row : (t : Table) (c d : ℕ) → d < deck → twins t c d ≡ true → Row t c d
twins_row t c d l e x a b i = elim (or_cases _ _ ((decides_row t c d deck).0 (and_parts _ _ e).1 x (omega arith))) [
  | inl q ↦ absurd (both_ways _ (not-true _ q) (and_from _ _ (lt-ltb c x a) (lt-ltb x d b)))
  | inr q ↦ elim (or_cases _ _ q) [ inl z ↦ absurd (both_ways _ (not-true _ z) i) | inr h ↦ h ]
]

-- a lower card that may be played is a twin
decides_twin : (t : Table) (d n : ℕ) → Decides (twin_among t d n) ((c : ℕ) × (c < n) × ((may t c && twins t c d) ≡ true))
unfolding twin_among
decides_twin t d = Decides-below_or (λ c. may t c && twins t c d) (λ c. (may t c && twins t c d) ≡ true) (twin_among t d) (λ x. ((λ e. e), (λ e. e))) refl (λ n. refl)

module _ (t : Table) (n : ℕ) (s : Sound t n) where
  own_in_play : (c : ℕ) → may t c ≡ true → in_play t c ≡ true
  own_in_play c m = held_in_play t (turn t) c (omega arith) (may_parts t c m).owned

  -- the next lower card in play of the suit, if it is an own one, is a twin
  twin_next : (d p : ℕ) → may t d ≡ true → IsTop (lower (in_play t) d) deck p → t.hand (turn t) p ≡ true → twin_among t d d ≡ true
  twin_next d p m top own =
      let (a, b) = and_parts (in_play t p && eqb (suit p) (suit d)) (ltb p d) top.there in
      let less : p < d = ltb-true _ _ b in
      let e : suit p ≡ suit d = eqb-true _ _ (and_parts (in_play t p) _ a).1 in
      let mp = may_suit t d p m (sym e) top.under own in
      let row : Row t p d = λ x l k i. absurd (both_ways _ (top.past x l (let h = (may_parts t d m).card in omega arith)) (and_from _ _ (and_from _ _ i (eq-eqb _ _ (omega arith))) (lt-ltb x d k))) in
      (decides_twin t d d).1 (p, less, and_from _ _ mp (twins_from t p d e row))

  -- where there is a twin below, the next lower card in play of the suit is an own one
  own_next : (d p : ℕ) → may t d ≡ true → IsTop (lower (in_play t) d) deck p → twin_among t d d ≡ true → t.hand (turn t) p ≡ true
  own_next d p m top e =
      let (c, l, both) = (decides_twin t d d).0 e in
      let (mc, tw) = and_parts _ _ both in
      let same = (and_parts _ _ tw).0 in
      let (a, b) = and_parts _ _ top.there in
      elim (cases_order p c) [
        | inl q ↦ ap (t.hand (turn t)) q ∙ (may_parts t c mc).owned
        | inr o ↦ elim o [
          | inl k ↦ absurd (both_ways _ (top.past c k (may_parts t c mc).card) (and_from _ _ (and_from _ _ (own_in_play c mc) same) (lt-ltb c d l)))
          | inr k ↦ twins_row t c d (may_parts t d m).card tw p k (ltb-true _ _ b) (and_parts _ _ a).0
        ]
      ]

  -- so a card is covered just where a lower twin may be played
  covered_is : (d : ℕ) → may t d ≡ true → covered (t.hand (turn t)) (in_play t) d ≡ twin_among t d d
  covered_is d m = elim (top_cases (lower (in_play t) d) deck) [
    | inl (p, top) ↦ ap (is_in (t.hand (turn t))) (top_is _ _ _ top) ∙ same_tests _ _ (twin_next d p m top) (own_next d p m top)
    | inr f ↦ ap (is_in (t.hand (turn t))) (top_none _ _ f) ∙ elim (cases_Bool (twin_among t d d)) [
      | inr e ↦ sym e
      | inl e ↦
          let (c, l, both) = (decides_twin t d d).0 e in
          let (mc, tw) = and_parts _ _ both in
          absurd (both_ways _ (f c (may_parts t c mc).card) (and_from _ _ (and_from _ _ (own_in_play c mc) (and_parts _ _ tw).0) (lt-ltb c d l)))
    ]
  ]

  -- the lowest, by the sets that the code has: who is to play has own, and play is what it sees in play
  pub lowest_is : (own play : ℕ → Bool) → own ≡ t.hand (turn t) → ((x : ℕ) → play x ≡ seen_in_play t x) → (d : ℕ) → (may t d && not (covered own play d)) ≡ lowest t d
  lowest_is own play e f d = elim (cases_Bool (may t d)) [
    | inr m ↦ and_left _ _ m ∙ sym (and_left _ _ m)
    | inl m ↦
        ap (λ (b : Bool). may t d && not b)
        (ap₂ (λ (a b : ℕ → Bool). covered a b d) e (fun_ext (λ x. f x ∙ seen_is t x)) ∙ covered_is d m)
  ]

  -- each card that may be played has a lowest one that is as good
  each_lowest : (k d : ℕ) → d < k → may t d ≡ true → (c : ℕ) × (lowest t c ≡ true) × (c ≤ d) × AsGoodAs t c d
  each_lowest zero d l m = absurd (omega arith)
  each_lowest (suc k) d l m = elim (cases_Bool (twin_among t d d)) [
    | inl e ↦
        let (c, less, both) = (decides_twin t d d).0 e in
        let (mc, tw) = and_parts _ _ both in
        let good = row_as_good t n c d s less (eqb-true _ _ (and_parts _ _ tw).0) mc m (twins_row t c d (may_parts t d m).card tw) in
        let (b, low, le, g) = each_lowest k c (omega arith) mc in
        (b, low, omega arith, as_good_trans t b c d g good)
    | inr e ↦ (d, and_from _ _ m (not_from_false _ e), omega arith, as_good_refl t d)
  ]

  pub lowest_serve : (set : ℕ → Bool) → ((x : ℕ) → set x ≡ lowest t x) → Serves t set
  lowest_serve set is = record {
    legal = λ c e. (and_parts _ _ (sym (is c) ∙ e)).0;
    each = λ d m. (let (c, low, le, g) = each_lowest (suc d) d (omega arith) m in (c, is c ∙ low, le, g));
    apart = λ c d l a b. elim (cases_Bool (twins t c d)) [
      | inr e ↦ e
      | inl e ↦
          let none = not-true _ (and_parts _ _ (sym (is d) ∙ b)).1 in
          absurd (both_ways _ none ((decides_twin t d d).1 (c, l, and_from _ _ (and_parts _ _ (sym (is c) ∙ a)).0 e)))
    ];
  }
