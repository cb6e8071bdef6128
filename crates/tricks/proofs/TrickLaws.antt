-- The best card of a trick, card by card, its taker, and the tricks that a card gains. Assumes nothing.
use Rattle.std.proofs.Common.{◌≡◌, ℕ, ◌+◌, ◌%◌, ◌<◌, ◌≤◌, Bool, true, false, ◌&&◌, eqb, List, [], ◌∷◌, ◌++◌, length, get_or, take, drop, Some, None, refl, ◌∙◌, add-one, arith}
use Rattle.std.proofs.lemmas.List.{at_drop_more, at_drop_all}
use Rattle.cards.specs.Table.{Table, pick, one, suit}
use Rattle.cards.specs.Hands.{numbers}
use Rattle.cards.specs.declared.card.Card.{Card}
use Rattle.tricks.specs.Rules.{beats, best, winner, gains}
use Rattle.tricks.specs.Taken.{taken_by, gain_of}

-- the first card is the best so far, before and after it is seen
pub best_first : (trump s : ℕ) (xs : List ℕ) → 0 < length xs → best trump s (get_or xs 0 0) 0 0 xs ≡ best trump s (get_or xs 0 0) 0 1 (drop 1 xs)
unfolding best
best_first trump s [] l = absurd (omega arith)
best_first trump s (x ∷ xs) l = by (beats trump s x x)
  where
    by : (b : Bool) → pick b (best trump s x 0 1 xs) (best trump s x 0 1 xs) ≡ best trump s x 0 1 xs
    by true = refl
    by false = refl

-- the best card, with one more card seen
pub best_more : (trump s c at i : ℕ) (xs : List ℕ) → i < length xs →
    best trump s c at i (drop i xs) ≡ pick (beats trump s c (get_or xs i 0)) (best trump s (get_or xs i 0) i (i + 1) (drop (i + 1) xs)) (best trump s c at (i + 1) (drop (i + 1) xs))
unfolding best
best_more trump s c at i xs l = at_drop_more (best trump s c at i) xs i 0 l ∙ simp add-one

-- the best card, with all cards seen
pub best_all : (trump s c at i : ℕ) (xs : List ℕ) → length xs ≤ i → best trump s c at i (drop i xs) ≡ at
unfolding best
best_all trump s c at i xs l = at_drop_all (best trump s c at i) xs i l

-- the taker of a trick of three cards and a fourth
pub taker_is : (t : Table) (xs : List Card) (n c : ℕ) (x y z : Card) → length xs ≡ 3 → n ≡ 3 →
    (t.leader + best t.trump (suit (get_or xs 0 x).number) (get_or xs 0 x).number 0 1 ((get_or xs 1 y).number ∷ (get_or xs 2 z).number ∷ c ∷ [])) % 4 ≡ winner t (take n (numbers xs) ++ (c ∷ []))
unfolding winner
taker_is t (p ∷ q ∷ r ∷ []) n c x y z l e = rw e
taker_is t [] n c x y z l e = absurd (omega arith)
taker_is t (p ∷ []) n c x y z l e = absurd (omega arith)
taker_is t (p ∷ q ∷ []) n c x y z l e = absurd (omega arith)
taker_is t (p ∷ q ∷ r ∷ s ∷ ss) n c x y z l e = absurd (omega arith)

-- the winner sits at the table
pub winner_low : (t : Table) (xs : List ℕ) → t.leader < 4 → winner t xs < 4
unfolding winner
winner_low t [] l = l
winner_low t (x ∷ xs) l = omega arith

-- what a card gains, by who takes the trick that it ends
pub gain_is : (t : Table) (c : ℕ) → gain_of (taken_by t c) ≡ gains t c
unfolding gains
gain_is t c = by (eqb (length t.trick) 3)
  where
    by : (b : Bool) → gain_of (pick b (Some (winner t (t.trick ++ (c ∷ [])))) None) ≡ one (b && eqb (winner t (t.trick ++ (c ∷ [])) % 2) 0)
    by true = refl
    by false = refl
