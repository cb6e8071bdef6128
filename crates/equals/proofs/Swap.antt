-- Two cards next to each other in one hand are as good as each other: a table in which they are exchanged is played alike. Assumes nothing.
use Rattle.std.proofs.Common.{◌≡◌, ℕ, zero, suc, ◌+◌, ◌%◌, ◌<◌, Bool, true, false, not, ◌&&◌, ◌||◌, eqb, ltb, List, [], ◌∷◌, ◌++◌, map, length, get_or, Decides, sym, refl, ap, ◌∙◌, subst, ap₂, inl, inr, arith}
use mathlib.Core.Bool.{or-true}
use Rattle.std.proofs.lemmas.Bool.{both_ways, eqb-true, eqb-false, eq-eqb, ltb-true, lt-ltb, not-true, not_from_false, cases_lt, cases_Bool, and_from, and_parts, or_cases, or_left, or_right}
use Rattle.std.proofs.lemmas.Bool.Decides.{same_from_decides, Decides-below_and}
use Rattle.std.proofs.lemmas.List.{length-map, length_push, map_push}
use Rattle.cards.specs.Table.{Table, pick, deck, suit, has_suit, Sound}
use Rattle.cards.proofs.SuitLaws.{some_at}
use Rattle.tricks.specs.Rules.{turn, may, follows, winner, without, after, gains}
use Rattle.tricks.proofs.SuitLaws.{has_suit_some}
use Rattle.tricks.proofs.TrickLaws.{winner_low}
use Rattle.tricks.proofs.MayLaws.{may_parts}
use Rattle.tricks.proofs.Stays.{laid, still}
use Rattle.tricks.proofs.Same.{Alike, alike_back, worth_same}
use Rattle.equals.specs.Equals.{in_play, no_between, AsGood}
use Rattle.equals.proofs.SwapLaws.{swap, swap_left, swap_twice, swap_suit, swap_lt, swap_below, swap_eqb, swap_other, Mine, Outer, winner_swap, not_both, on_at, all_end, map_same}

pub same_tests : (a b : Bool) → (a ≡ true → b ≡ true) → (b ≡ true → a ≡ true) → a ≡ b
same_tests a b f g = same_from_decides {P = b ≡ true} a b (f, g) ((λ e. e), (λ e. e))

-- two tables that differ by the two cards, both of one player p
module _ (c d p : ℕ) where
  pub record Swapped (t u : Table) : Type 0 where
    pub trumps : u.trump ≡ t.trump
    pub leads : u.leader ≡ t.leader
    pub tricks : u.trick ≡ map (swap c d) t.trick
    pub hands : (q x : ℕ) → q < 4 → u.hand q x ≡ t.hand q (swap c d x)
    pub low : t.leader < 4
    pub short : length t.trick < 4
    pub outer_hand : (q x : ℕ) → q < 4 → t.hand q x ≡ true → Outer c d x
    pub outer_trick : (i : ℕ) → i < length t.trick → Outer c d (get_or t.trick i 0)
    pub own_hand : (q x : ℕ) → q < 4 → t.hand q x ≡ true → Mine c d x → q ≡ p
    pub own_trick : (i : ℕ) → i < length t.trick → Mine c d (get_or t.trick i 0) → (t.leader + i) % 4 ≡ p

module _ (c d p : ℕ) (lt : c < d) (small : d < deck) (suits : suit c ≡ suit d) (t u : Table) (r : Swapped c d p t u) where
  swap_length : length u.trick ≡ length t.trick
  swap_length = ap length r.tricks ∙ length-map t.trick (swap c d)

  swap_turn : turn u ≡ turn t
  swap_turn = rw (r.leads, swap_length)

  swap_hand : (x : ℕ) → u.hand (turn u) x ≡ t.hand (turn t) (swap c d x)
  swap_hand x = rw swap_turn (r.hands (turn t) x (omega arith))

  swap_hand_at : (x : ℕ) → u.hand (turn u) (swap c d x) ≡ t.hand (turn t) x
  swap_hand_at x = swap_hand (swap c d x) ∙ ap (t.hand (turn t)) (swap_twice c d x)

  -- the same suits are there to follow
  swap_has : (s : ℕ) → has_suit (u.hand (turn u)) s deck ≡ has_suit (t.hand (turn t)) s deck
  swap_has s =
      same_tests _ _
      (λ e.
      let (y, ly, hy, sy) = has_suit_some (u.hand (turn u)) s deck e in
      some_at (t.hand (turn t)) s deck (swap c d y) (swap_below c d y (omega arith) small ly) (and_from _ _ (sym (swap_hand y) ∙ hy) (eq-eqb _ _ (swap_suit c d y suits ∙ sy))))
      (λ e.
      let (y, ly, hy, sy) = has_suit_some (t.hand (turn t)) s deck e in
      some_at (u.hand (turn u)) s deck (swap c d y) (swap_below c d y (omega arith) small ly) (and_from _ _ (swap_hand_at y ∙ hy) (eq-eqb _ _ (swap_suit c d y suits ∙ sy))))

  swap_follows : (x : ℕ) → follows (u.hand (turn u)) u.trick (swap c d x) ≡ follows (t.hand (turn t)) t.trick x
  unfolding follows
  swap_follows x = subst (λ (xs : List ℕ). follows (u.hand (turn u)) xs (swap c d x) ≡ follows (t.hand (turn t)) t.trick x) (sym r.tricks) (go t.trick)
    where
      go : (xs : List ℕ) → follows (u.hand (turn u)) (map (swap c d) xs) (swap c d x) ≡ follows (t.hand (turn t)) xs x
      go [] = refl
      go (y ∷ ys) = rw (swap_suit c d x suits, swap_suit c d y suits, swap_has (suit y))

  swap_may : (x : ℕ) → may u (swap c d x) ≡ may t x
  swap_may x = ap₂ ◌&&◌ (ap₂ ◌&&◌ (swap_lt c d x (omega arith) small) (swap_hand_at x)) (swap_follows x)

  module _ (x : ℕ) (m : may t x ≡ true) where
    outer_next : (i : ℕ) → i < length (t.trick ++ (x ∷ [])) → Outer c d (get_or (t.trick ++ (x ∷ [])) i 0)
    outer_next = all_end (λ i y. Outer c d y) t.trick x r.outer_trick (r.outer_hand (turn t) x (omega arith) (may_parts t x m).owned)

    own_next : (i : ℕ) → i < length (t.trick ++ (x ∷ [])) → Mine c d (get_or (t.trick ++ (x ∷ [])) i 0) → (t.leader + i) % 4 ≡ p
    own_next = all_end (λ i y. Mine c d y → (t.leader + i) % 4 ≡ p) t.trick x r.own_trick (r.own_hand (turn t) x (omega arith) (may_parts t x m).owned)

    trick_next : u.trick ++ (swap c d x ∷ []) ≡ map (swap c d) (t.trick ++ (x ∷ []))
    trick_next = ap (λ (xs : List ℕ). xs ++ (swap c d x ∷ [])) r.tricks ∙ sym (map_push (swap c d) t.trick x)

    swap_winner : winner u (u.trick ++ (swap c d x ∷ [])) ≡ winner t (t.trick ++ (x ∷ []))
    swap_winner =
        ap (winner u) trick_next
        ∙ winner_swap c d t u r.trumps r.leads lt suits (t.trick ++ (x ∷ []))
        (not_both c d t.leader p (t.trick ++ (x ∷ [])) lt (let h = r.short in omega (arith, length_push t.trick x)) outer_next own_next)

    swap_gains : gains u (swap c d x) ≡ gains t x
    unfolding gains
    swap_gains = rw (swap_length, swap_winner)

    swap_after : Swapped c d p (after t x) (after u (swap c d x))
    unfolding after
    swap_after =
        subst (λ (b : Bool). Swapped c d p (after t x) (laid u (swap c d x) b)) (ap (λ (k : ℕ). eqb k 3) (sym swap_length)) (go (eqb (length t.trick) 3) refl)
      where
        hand_next : (q y : ℕ) → q < 4 → without u (swap c d x) q y ≡ without t x q (swap c d y)
        hand_next q y l = rw (r.hands q y l, swap_turn, swap_eqb c d x y)

        go : (b : Bool) → eqb (length t.trick) 3 ≡ b → Swapped c d p (laid t x b) (laid u (swap c d x) b)
        go true e = record {
          trumps = r.trumps;
          leads = swap_winner;
          tricks = refl;
          hands = hand_next;
          low = winner_low t _ r.low;
          short = omega arith;
          outer_hand = λ q y l h. r.outer_hand q y l (still t x q y h);
          outer_trick = λ i l. absurd (omega arith);
          own_hand = λ q y l h. r.own_hand q y l (still t x q y h);
          own_trick = λ i l. absurd (omega arith);
        }
        go false e = record {
          trumps = r.trumps;
          leads = r.leads;
          tricks = trick_next;
          hands = hand_next;
          low = r.low;
          short = (let ne = eqb-false _ _ e in let h = r.short in omega (arith, length_push t.trick x));
          outer_hand = λ q y l h. r.outer_hand q y l (still t x q y h);
          outer_trick = outer_next;
          own_hand = λ q y l h. r.own_hand q y l (still t x q y h);
          own_trick = own_next;
        }

swap_alike : (c d p : ℕ) → c < d → d < deck → suit c ≡ suit d → Alike (Swapped c d p)
swap_alike c d p lt small suits = record {
  sides = λ t u r. rw (swap_turn c d p lt small suits t u r);
  there = λ t u r x m. record { card = swap c d x; legal = swap_may c d p lt small suits t u r x ∙ m; gain = swap_gains c d p lt small suits t u r x m; next = swap_after c d p lt small suits t u r x m };
  back = λ t u r y m.
      (let e = swap_twice c d y in
      let m' : may t (swap c d y) ≡ true = sym (swap_may c d p lt small suits t u r (swap c d y)) ∙ ap (may u) e ∙ m in
      record {
        card = swap c d y;
        legal = m';
        gain = sym (swap_gains c d p lt small suits t u r (swap c d y) m') ∙ ap (gains u) e;
        next = subst (λ (z : ℕ). Swapped c d p (after t (swap c d y)) (after u z)) e (swap_after c d p lt small suits t u r (swap c d y) m');
      });
}

-- what a player holds, and what lies on the table, is in play
pub held_in_play : (t : Table) (q x : ℕ) → q < 4 → t.hand q x ≡ true → in_play t x ≡ true
held_in_play t zero x l e = rw e
held_in_play t (suc zero) x l e = rw (e, or-true)
held_in_play t (suc (suc zero)) x l e = rw e (or-true _)
held_in_play t (suc (suc (suc zero))) x l e = rw (e, or-true) (or-true _)
held_in_play t (suc (suc (suc (suc q)))) x l e = absurd (omega arith)

lying_in_play : (t : Table) (i : ℕ) → i < length t.trick → in_play t (get_or t.trick i 0) ≡ true
lying_in_play t i l = rw (on_at t.trick i l, or-true, or-true)

-- one card does not lie between, or is not in play
abbrev apart : Table → ℕ → ℕ → ℕ → Bool
apart t c d x = not (ltb c x && ltb x d) || not (in_play t x)

outside : (t : Table) (c d x : ℕ) → apart t c d x ≡ true → in_play t x ≡ true → Outer c d x
outside t c d x e h = elim (cases_lt c x) [
  | inr a ↦ inl a
  | inl a ↦ elim (cases_lt x d) [
    | inr b ↦ inr b
    | inl b ↦ elim (or_cases _ _ e) [
      | inl q ↦ absurd (both_ways _ (not-true _ q) (and_from _ _ (lt-ltb c x a) (lt-ltb x d b)))
      | inr q ↦ absurd (both_ways _ (not-true _ q) h)
    ]
  ]
]

apart_from : (t : Table) (c d x : ℕ) → (c < x → x < d → in_play t x ≡ false) → apart t c d x ≡ true
apart_from t c d x f = elim (cases_Bool (ltb c x && ltb x d)) [
  | inl e ↦ let (a, b) = and_parts _ _ e in or_right _ _ (not_from_false _ (f (ltb-true _ _ a) (ltb-true _ _ b)))
  | inr e ↦ or_left _ _ (not_from_false _ e)
]

decides_gap : (t : Table) (c d n : ℕ) → Decides (no_between t c d n) ((x : ℕ) → x < n → apart t c d x ≡ true)
unfolding no_between
decides_gap t c d = Decides-below_and (apart t c d) (λ x. apart t c d x ≡ true) (no_between t c d) (λ x. ((λ e. e), (λ e. e))) refl (λ n. refl)

-- none lies between, by each card
pub no_between_from : (t : Table) (c d : ℕ) → ((x : ℕ) → c < x → x < d → in_play t x ≡ false) → no_between t c d deck ≡ true
no_between_from t c d f = (decides_gap t c d deck).1 (λ x l. apart_from t c d x (f x))

-- where none lies between, what is in play lies outside
between : (t : Table) (c d x : ℕ) → no_between t c d deck ≡ true → x < deck → in_play t x ≡ true → Outer c d x
between t c d x e l h = outside t c d x ((decides_gap t c d deck).0 e x l) h

module _ (t : Table) (n c d : ℕ) (s : Sound t n) (lt : c < d) (mc : may t c ≡ true) (md : may t d ≡ true) (gap : no_between t c d deck ≡ true) where
  mine_there : (x : ℕ) → Mine c d x → t.hand (turn t) x ≡ true
  mine_there x (inl e) = rw e (may_parts t c mc).owned
  mine_there x (inr e) = rw e (may_parts t d md).owned

  same_hand : (q : ℕ) → q < 4 → t.hand q c ≡ t.hand q d
  same_hand q l = same_tests _ _
      (λ e. rw (s.once q (turn t) c l (omega arith) e (may_parts t c mc).owned) (may_parts t d md).owned)
      (λ e. rw (s.once q (turn t) d l (omega arith) e (may_parts t d md).owned) (may_parts t c mc).owned)

  trick_other : (i : ℕ) → i < length t.trick → Mine c d (get_or t.trick i 0) → ⊥
  trick_other i l m = both_ways _ (s.played i 0 l (turn t) (omega arith)) (mine_there _ m)

  outer_lying : (i : ℕ) → i < length t.trick → Outer c d (get_or t.trick i 0)
  outer_lying i l = elim (cases_lt (get_or t.trick i 0) deck) [
    | inl k ↦ between t c d _ gap k (lying_in_play t i l)
    | inr k ↦ inr (let h = (may_parts t d md).card in omega arith)
  ]

  -- a table is alike to itself with the two cards exchanged
  swap_self : Swapped c d (turn t) t t
  swap_self = record {
    trumps = refl;
    leads = refl;
    tricks = map_same (swap c d) t.trick (λ i l. swap_other c d _ (trick_other i l));
    hands = λ q x l. hands q x l (eqb x c) (eqb x d) refl refl;
    low = s.leads;
    short = s.short;
    outer_hand = λ q x l h. between t c d x gap (s.cards x q h) (held_in_play t q x l h);
    outer_trick = outer_lying;
    own_hand = λ q x l h m. s.once q (turn t) x l (omega arith) h (mine_there x m);
    own_trick = λ i l m. absurd (trick_other i l m);
  }
    where
      hands : (q x : ℕ) → q < 4 → (a b : Bool) → eqb x c ≡ a → eqb x d ≡ b → t.hand q x ≡ t.hand q (pick a d (pick b c x))
      hands q x l true b e f = rw (eqb-true x c e) (same_hand q l)
      hands q x l false true e f = rw (eqb-true x d f) (sym (same_hand q l))
      hands q x l false false e f = refl

pub as_good : AsGood
as_good t n c d v s lt suits mc md gap =
    let small = (may_parts t d md).card in
    let p = turn t in
    let r = swap_self t n c d s lt mc md gap in
    let alike = swap_alike c d p lt small suits in
    let w = subst (λ (z : ℕ). Swapped c d p (after t c) (after t z)) (swap_left c d) (swap_after c d p lt small suits t t r c mc) in (
      worth_same (Swapped c d p) alike (after t c) (after t d) v w,
      worth_same (λ a b. Swapped c d p b a) (alike_back (Swapped c d p) alike) (after t d) (after t c) v w,
      sym (swap_gains c d p lt small suits t t r c mc) ∙ ap (gains t) (swap_left c d),
    )
