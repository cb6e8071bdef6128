-- Two cards exchanged: what it does to suits, to the order of other cards, and to who takes a trick. Assumes nothing.
use Rattle.std.proofs.Common.{◌≡◌, ℕ, zero, suc, ◌+◌, ◌%◌, ◌<◌, ◌≤◌, Bool, true, false, not, ◌&&◌, ◌||◌, eqb, ltb, ◌⊎◌, List, [], ◌∷◌, ◌++◌, map, length, get_or, sym, refl, ap, ◌∙◌, ap₂, inl, inr, arith}
use Rattle.std.proofs.lemmas.Bool.{false≢true, eqb-true, eq-eqb, ne_eqb, both_ways, cases_lt, cases_eq, cases_Bool, or_cases, or_left, or_right}
use Rattle.std.proofs.lemmas.List.{length_push, get_or_append_left, get_or_push}
use Rattle.cards.specs.Table.{Table, pick, deck, suit, rank}
use Rattle.cards.specs.Deal.{has}
use Rattle.tricks.specs.Rules.{beats, best, winner}
use Rattle.equals.specs.Equals.{on}

-- cards c and d exchanged
abbrev pub swap : ℕ → ℕ → ℕ → ℕ
swap c d x = pick (eqb x c) d (pick (eqb x d) c x)

pub swap_left : (c d : ℕ) → swap c d c ≡ d
swap_left c d = rw (eq-eqb c c refl)

pub swap_twice : (c d x : ℕ) → swap c d (swap c d x) ≡ x
swap_twice c d x = grind arith

pub swap_suit : (c d x : ℕ) → suit c ≡ suit d → suit (swap c d x) ≡ suit x
swap_suit c d x e = grind arith

pub swap_lt : (c d x : ℕ) → c < deck → d < deck → ltb (swap c d x) deck ≡ ltb x deck
swap_lt c d x lc ld = grind arith

pub swap_below : (c d x : ℕ) → c < deck → d < deck → x < deck → swap c d x < deck
swap_below c d x lc ld l = grind arith

pub swap_eqb : (c d x y : ℕ) → eqb y (swap c d x) ≡ eqb (swap c d y) x
swap_eqb c d x y = grind arith

-- one of the two cards
abbrev pub Mine : ℕ → ℕ → ℕ → Type 0
Mine c d x = (x ≡ c) ⊎ (x ≡ d)

pub swap_other : (c d x : ℕ) → (Mine c d x → ⊥) → swap c d x ≡ x
swap_other c d x f = rw (ne_eqb x c (λ e. f (inl e)), ne_eqb x d (λ e. f (inr e)))

-- a card that does not lie between the two; nor is the higher of them; nor is the lower of them
abbrev pub Outer : ℕ → ℕ → ℕ → Type 0
Outer c d x = (x ≤ c) ⊎ (d ≤ x)

abbrev pub Low : ℕ → ℕ → ℕ → Type 0
Low c d x = (x ≤ c) ⊎ (d < x)

abbrev pub High : ℕ → ℕ → ℕ → Type 0
High c d x = (x < c) ⊎ (d ≤ x)

order_low : (c d a b : ℕ) → c < d → Low c d a → Low c d b → ltb (swap c d a) (swap c d b) ≡ ltb a b
order_low c d a b l ha hb = grind arith

order_high : (c d a b : ℕ) → c < d → High c d a → High c d b → ltb (swap c d a) (swap c d b) ≡ ltb a b
order_high c d a b l ha hb = grind arith

-- in one suit the rank goes by the number
rank_lt : (a b : ℕ) → (eqb (suit b) (suit a) && ltb (rank a) (rank b)) ≡ (eqb (suit b) (suit a) && ltb a b)
rank_lt a b = grind arith

beats_is : (tr s a b : ℕ) → beats tr s a b ≡ ((eqb (suit b) (suit a) && ltb a b) || (not (eqb (suit a) tr) && eqb (suit b) tr))
beats_is tr s a b = ap (λ (k : Bool). k || (not (eqb (suit a) tr) && eqb (suit b) tr)) (rank_lt a b)

beats_swap : (c d tr s s' a b : ℕ) → suit c ≡ suit d → ltb (swap c d a) (swap c d b) ≡ ltb a b → beats tr s' (swap c d a) (swap c d b) ≡ beats tr s a b
beats_swap c d tr s s' a b e o =
    beats_is tr s' (swap c d a) (swap c d b) ∙ rw (swap_suit c d a e, swap_suit c d b e, o) (sym (beats_is tr s a b))

-- cards renamed, such that each beats what it beat, have their best at the same place
best_map : (f : ℕ → ℕ) (P : ℕ → Type 0) (tr s s' : ℕ) → ((a b : ℕ) → P a → P b → beats tr s' (f a) (f b) ≡ beats tr s a b) →
    (xs : List ℕ) (a at i : ℕ) → P a → ((j : ℕ) → j < length xs → P (get_or xs j 0)) → best tr s' (f a) at i (map f xs) ≡ best tr s a at i xs
unfolding best
best_map f P tr s s' ok [] a at i pa ps = refl
best_map f P tr s s' ok (x ∷ xs) a at i pa ps =
    let px = ps 0 (omega arith) in
    let rest : (j : ℕ) → j < length xs → P (get_or xs j 0) = λ j l. ps (suc j) (omega arith) in
    rw (ok a x pa px, best_map f P tr s s' ok xs x i (suc i) px rest, best_map f P tr s s' ok xs a at (suc i) pa rest)

-- a trick in which the two are exchanged has the same winner, if only one of them is in it
pub winner_swap : (c d : ℕ) (t u : Table) → u.trump ≡ t.trump → u.leader ≡ t.leader → c < d → suit c ≡ suit d → (xs : List ℕ) →
    ((i : ℕ) → i < length xs → Low c d (get_or xs i 0)) ⊎ ((i : ℕ) → i < length xs → High c d (get_or xs i 0)) → winner u (map (swap c d) xs) ≡ winner t xs
unfolding winner
winner_swap c d t u tr le l e [] all = le
winner_swap c d t u tr le l e (x ∷ xs) (inl f) =
    rw (tr, le, best_map (swap c d) (Low c d) t.trump (suit x) (suit (swap c d x)) (λ a b pa pb. beats_swap c d t.trump (suit x) (suit (swap c d x)) a b e (order_low c d a b l pa pb)) xs x 0 1 (f 0 (omega arith)) (λ j k. f (suc j) (omega arith)))
winner_swap c d t u tr le l e (x ∷ xs) (inr f) =
    rw (tr, le, best_map (swap c d) (High c d) t.trump (suit x) (suit (swap c d x)) (λ a b pa pb. beats_swap c d t.trump (suit x) (suit (swap c d x)) a b e (order_high c d a b l pa pb)) xs x 0 1 (f 0 (omega arith)) (λ j k. f (suc j) (omega arith)))

-- the cards of a list stand in it
pub on_at : (xs : List ℕ) (i : ℕ) → i < length xs → on (get_or xs i 0) xs ≡ true
unfolding has
on_at [] i l = absurd (omega arith)
on_at (x ∷ xs) zero l = or_left _ _ (eq-eqb x x refl)
on_at (x ∷ xs) (suc i) l = or_right _ _ (on_at xs i (omega arith))

place_on : (xs : List ℕ) (x : ℕ) → on x xs ≡ true → (i : ℕ) × (i < length xs) × (get_or xs i 0 ≡ x)
unfolding has
place_on [] x e = absurd (false≢true e)
place_on (y ∷ ys) x e = elim (or_cases _ _ e) [
  | inl q ↦ (0, omega arith, sym (eqb-true _ _ q))
  | inr q ↦ let (i, l, f) = place_on ys x q in (suc i, omega arith, f)
]

-- a player plays one card to a trick, so the two are not both in it
pub not_both : (c d l p : ℕ) (xs : List ℕ) → c < d → length xs ≤ 4 → ((i : ℕ) → i < length xs → Outer c d (get_or xs i 0)) → ((i : ℕ) → i < length xs → Mine c d (get_or xs i 0) → (l + i) % 4 ≡ p) →
    ((i : ℕ) → i < length xs → Low c d (get_or xs i 0)) ⊎ ((i : ℕ) → i < length xs → High c d (get_or xs i 0))
not_both c d l p xs lt four outer mine = elim (cases_Bool (on c xs)) [
  | inl e ↦ let (i, li, q) = place_on xs c e in inl (λ j lj. low i li q j lj (outer j lj))
  | inr e ↦ inr (λ j lj. high e j lj (outer j lj))
]
  where
    clash : (i : ℕ) → i < length xs → get_or xs i 0 ≡ c → (j : ℕ) → j < length xs → get_or xs j 0 ≡ d → ⊥
    clash i li e j lj f =
        let a = mine i li (inl e) in
        let b = mine j lj (inr f) in
        let q : i ≡ j = omega arith in
        let z : c ≡ d = sym e ∙ ap (λ k. get_or xs k 0) q ∙ f in
        omega arith

    low : (i : ℕ) → i < length xs → get_or xs i 0 ≡ c → (j : ℕ) → j < length xs → Outer c d (get_or xs j 0) → Low c d (get_or xs j 0)
    low i li e j lj (inl k) = inl k
    low i li e j lj (inr k) = elim (cases_lt d (get_or xs j 0)) [ inl q ↦ inr q | inr q ↦ absurd (clash i li e j lj (omega arith)) ]

    high : on c xs ≡ false → (j : ℕ) → j < length xs → Outer c d (get_or xs j 0) → High c d (get_or xs j 0)
    high f j lj (inr k) = inr k
    high f j lj (inl k) = elim (cases_eq (get_or xs j 0) c) [
      | inl q ↦ absurd (both_ways _ f (ap (λ y. on y xs) (sym q) ∙ on_at xs j lj))
      | inr q ↦ inl (omega arith)
    ]

-- what holds at each place of a trick holds with one card more
pub all_end : (P : ℕ → ℕ → Type 0) (xs : List ℕ) (x : ℕ) → ((i : ℕ) → i < length xs → P i (get_or xs i 0)) → P (length xs) x → (i : ℕ) → i < length (xs ++ (x ∷ [])) → P i (get_or (xs ++ (x ∷ [])) i 0)
all_end P xs x f e i l = elim (cases_lt i (length xs)) [
  | inl k ↦ rw (get_or_append_left xs (x ∷ []) 0 i k) (f i k)
  | inr k ↦ let q : i ≡ length xs = omega (arith, length_push xs x) in rw (get_or_push xs x 0 i (sym q)) (rw q e)
]

pub map_same : (f : ℕ → ℕ) (xs : List ℕ) → ((i : ℕ) → i < length xs → f (get_or xs i 0) ≡ get_or xs i 0) → xs ≡ map f xs
map_same f [] e = refl
map_same f (x ∷ xs) e = ap₂ {C = List ℕ} (λ a l. a ∷ l) (sym (e 0 (omega arith))) (map_same f xs (λ i l. e (suc i) (omega arith)))
