-- The row of the cards that a hand has, the highest first. Assumes nothing.
use Rattle.std.proofs.Common.{◌≡◌, ℕ, ◌+◌, ◌≤◌, Bool, true, false, List, [], ◌∷◌, ◌++◌, length, sym, ap, ◌∙◌, append_assoc, append-nil, add-one, arith, length-append}
use Rattle.std.proofs.lemmas.List.{map-append}
use Rattle.cards.specs.Table.{pick, deck}
use Rattle.cards.specs.Hands.{numbers}
use Rattle.cards.specs.declared.card.Card.{Card}
use Rattle.text.specs.Cards.{cards_below}

-- a row has a hand's cards from n on, and there is room for the others
pub record RowSoFar (h : ℕ → Bool) (n : ℕ) (row : List Card) : Type 0 where
  pub room : length row + n ≤ 52
  pub whole : numbers row ++ cards_below h n ≡ cards_below h deck

module _ (h : ℕ → Bool) where
  -- the cards below n are those below m, and m where the hand has it
  below_is : (m n : ℕ) → m + 1 ≡ n → (b : Bool) → h m ≡ b → cards_below h n ≡ pick b (m ∷ cards_below h m) (cards_below h m)
  unfolding cards_below
  below_is m n next b e = ap (cards_below h) (sym next ∙ add-one m) ∙ ap (λ (x : Bool). pick x (m ∷ cards_below h m) (cards_below h m)) e

  pub skips : (m n : ℕ) (row : List Card) → m + 1 ≡ n → h m ≡ false → RowSoFar h n row → RowSoFar h m row
  skips m n row next e s = record {
    room = omega (arith, s.room);
    whole = ap (λ (l : List ℕ). numbers row ++ l) (sym (below_is m n next false e)) ∙ s.whole;
  }

  pub one_more : (m n : ℕ) (row row' : List Card) (c : Card) → m + 1 ≡ n → c.number ≡ m → h m ≡ true → row' ≡ row ++ c ∷ [] → RowSoFar h n row → RowSoFar h m row'
  one_more m n row row' c next is e pushed s = record {
    room = omega (arith, s.room, ap length pushed ∙ length-append row (c ∷ []));
    whole = rw (pushed, map-append, is, append_assoc) (ap (λ (l : List ℕ). numbers row ++ l) (sym (below_is m n next true e)) ∙ s.whole);
  }

  pub all : (n : ℕ) (row : List Card) → n ≡ 0 → RowSoFar h n row → numbers row ≡ cards_below h deck
  unfolding cards_below
  all n row e s = sym (append-nil (numbers row)) ∙ ap (λ (m : ℕ). numbers row ++ cards_below h m) (sym e) ∙ s.whole
