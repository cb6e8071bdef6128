-- The places of a deal, and the first of several faults. Assumes nothing.
use Rattle.std.proofs.Common.{◌≡◌, ℕ, zero, suc, ◌+◌, ◌<◌, ◌≤◌, max, Bool, ◌||◌, eqb, List, [], ◌∷◌, ◌++◌, length, get_or, take, drop, Some, None, Option, sym, refl, ap, ◌∙◌, ap₂, inl, inr, add-one, arith}
use mathlib.Core.Bool.{or_assoc}
use Rattle.std.proofs.lemmas.Bool.{cases_eq}
use Rattle.std.proofs.lemmas.List.{length-take-le, length-drop, get_or-take, get_or-drop}
use Rattle.std.proofs.lemmas.Grind.{common_steps}
use Rattle.cards.specs.Deal.{byte, start_of, number_byte, cards_of, has, or_else, first, largest}

-- where a hand ends, the next begins
pub start_next : (bs : List ℕ) (p : ℕ) → start_of bs (suc p) ≡ (start_of bs p + 1) + number_byte bs p
unfolding start_of
start_next bs p = refl

-- the places of the hands, one after the other
pub first_place : (bs : List ℕ) (n : ℕ) → n ≡ byte bs 2 → 3 + n ≡ start_of bs 0
unfolding start_of
first_place bs n e = ap (λ (x : ℕ). 3 + x) e

pub next_place : (bs : List ℕ) (p x y : ℕ) → x ≡ start_of bs p → y ≡ (x + 1) + byte bs x → y ≡ start_of bs (suc p)
next_place bs p x y e f = rw (start_next bs p, ← e) f

pub four_places : (bs : List ℕ) (a b c d : ℕ) → a ≡ start_of bs 0 → b ≡ start_of bs 1 → c ≡ start_of bs 2 → d ≡ start_of bs 3 →
    (p : ℕ) → p < 4 → get_or (a ∷ b ∷ c ∷ d ∷ []) p 0 ≡ start_of bs p
four_places bs a b c d e f g h p l = grind (arith, common_steps)

pub start_mono : (bs : List ℕ) (p q : ℕ) → p ≤ q → start_of bs p ≤ start_of bs q
start_mono bs p zero l = grind arith
start_mono bs p (suc q) l = grind (arith, start_mono bs p q, start_next bs q)

-- the cards of a player of a whole deal are there
pub within : (bs : List ℕ) (p : ℕ) → p < 4 → start_of bs 4 ≤ length bs → (start_of bs p + 1) + number_byte bs p ≤ length bs
within bs p l w = omega (arith, start_mono bs (suc p) 4 (omega arith), start_next bs p)

pub largest_more : (f : ℕ → ℕ) (n : ℕ) → largest f (n + 1) ≡ max (largest f n) (f n)
unfolding largest
largest_more f n = simp add-one

-- the part of a list that stands from a place on
pub part_length : (bs : List ℕ) (from n : ℕ) → from + n ≤ length bs → length (take n (drop from bs)) ≡ n
part_length bs from n l = length-take-le n (drop from bs) (omega (arith, length-drop from bs))

pub part_at : (bs : List ℕ) (from n i : ℕ) → i < n → get_or bs (from + i) 0 ≡ get_or (take n (drop from bs)) i 0
part_at bs from n i l = sym (get_or-take n (drop from bs) i 0 l ∙ get_or-drop from bs i 0)

-- the first of several, where there is none so far
pub first_none : (f : ℕ → Option ℕ) (n : ℕ) → first f n ≡ None → f n ≡ None → first f (n + 1) ≡ None
unfolding first
first_none f n p q = rw add-one (ap₂ or_else p q)

pub first_some : (f : ℕ → Option ℕ) (n k x : ℕ) → k < n → first f k ≡ None → f k ≡ Some x → first f n ≡ Some x
unfolding first
first_some f zero k x l p q = absurd (omega arith)
first_some f (suc n) k x l p q = elim (cases_eq k n) [
  | inl e ↦ rw (← e, p) q
  | inr e ↦ rw (first_some f n k x (omega arith) p q) refl
]

or_else_none : (a b : Option ℕ) → or_else a b ≡ None → (a ≡ None) × (b ≡ None)
or_else_none None b e = (refl, e)
or_else_none (Some x) b e = absurd (cc)

pub first_clean : (f : ℕ → Option ℕ) (n k : ℕ) → first f n ≡ None → k < n → f k ≡ None
unfolding first
first_clean f zero k e l = absurd (omega arith)
first_clean f (suc n) k e l = grind (arith, or_else_none (first f n) (f n), first_clean f n k)

-- what is among the cards of two lists
pub has_append : (xs ys : List ℕ) (x : ℕ) → has (xs ++ ys) x ≡ (has xs x || has ys x)
unfolding has
has_append [] ys x = refl
has_append (y ∷ xs) ys x = ap (λ (b : Bool). eqb x y || b) (has_append xs ys x) ∙ sym (or_assoc (eqb x y) (has xs x) (has ys x))

-- what is said of the cards after a number byte is said of the hand that begins there
pub cards_at : (bs : List ℕ) (p start number : ℕ) (cs : List ℕ) → start ≡ start_of bs p → number ≡ byte bs start → cs ≡ take number (drop (start + 1) bs) →
    (P : ℕ → List ℕ → Type 0) → P (start + 1) cs → P (start_of bs p + 1) (cards_of bs p)
cards_at bs p start number cs e f g P h = rw (← e, ← f, ← g) h

-- the cards after a number byte of a whole deal are there
pub cards_there : (bs : List ℕ) (p start : ℕ) → start ≡ start_of bs p → p < 4 → start_of bs 4 ≤ length bs → (start + 1) + byte bs start ≤ length bs
cards_there bs p start e l w = rw e (within bs p l w)
