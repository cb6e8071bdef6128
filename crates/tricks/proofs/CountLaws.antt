-- The hands after a card, and how many cards they have. Assumes nothing.
use Rattle.std.proofs.Common.{◌≡◌, ℕ, ◌+◌, ◌<◌, Bool, true, false, not, ◌&&◌, eqb, refl, ap, ◌∙◌, ap₂, inl, inr, arith}
use mathlib.Core.Bool.{and-true, and-false}
use Rattle.std.proofs.lemmas.Bool.{eq-eqb, ne_eqb, cases_eq}
use Rattle.cards.specs.Table.{Table, one, deck, count}
use Rattle.cards.proofs.CountLaws.{count_same, taken_out, count_out}
use Rattle.tricks.specs.Rules.{turn, without}

-- the hand of who plays card c has it no more, and one card fewer
pub without_own : (t : Table) (c p : ℕ) → p ≡ turn t → without t c p c ≡ false
without_own t c p e = ap₂ (λ (a b : Bool). t.hand p c && not (a && b)) (eq-eqb p (turn t) e) (eq-eqb c c refl) ∙ and-false (t.hand p c)

pub count_own : (t : Table) (c p : ℕ) → p ≡ turn t → t.hand p c ≡ true → c < deck → count (without t c p) deck + 1 ≡ count (t.hand p) deck
count_own t c p e h l =
    ap (λ (m : ℕ). m + 1) (count_same (without t c p) (taken_out (t.hand p) c) deck (λ x _. ap (λ (b : Bool). t.hand p x && not (b && eqb x c)) (eq-eqb p (turn t) e)))
    ∙ count_out (t.hand p) c deck l h

-- any other hand is as it was
pub without_other : (t : Table) (c p x : ℕ) → (p ≡ turn t → ⊥) → without t c p x ≡ t.hand p x
without_other t c p x e = ap (λ (b : Bool). t.hand p x && not (b && eqb x c)) (ne_eqb p (turn t) e) ∙ and-true (t.hand p x)

pub count_other : (t : Table) (c p : ℕ) → (p ≡ turn t → ⊥) → count (without t c p) deck ≡ count (t.hand p) deck
count_other t c p e = count_same (without t c p) (t.hand p) deck (λ x _. without_other t c p x e)

-- the hand of any player: one card fewer if it is to play
pub count_after : (t : Table) (c p : ℕ) → t.hand (turn t) c ≡ true → c < deck → count (without t c p) deck + one (eqb p (turn t)) ≡ count (t.hand p) deck
count_after t c p h l = elim (cases_eq p (turn t)) [
  | inl e ↦ rw (eq-eqb p (turn t) e) (count_own t c p e (ap (λ (q : ℕ). t.hand q c) e ∙ h) l)
  | inr e ↦ rw (ne_eqb p (turn t) e) (omega (arith, count_other t c p e))
]
