-- A set sifted card by card: what is left to look at, and what is kept. Assumes nothing.
use Rattle.std.proofs.Common.{◌≡◌, ℕ, ◌^◌, ◌<◌, Bool, true, false, not, ◌&&◌, ◌||◌, eqb, sym, refl, ap, ◌∙◌, ap₂, inl, inr, arith}
use mathlib.Core.Bool.{and-true}
use Rattle.std.proofs.lemmas.Bool.{eq-eqb, ne_eqb, cases_eq, cases_lt}
use Rattle.cards.specs.Table.{deck, count}
use Rattle.cards.specs.Bits.{bit}
use Rattle.cards.proofs.BitLaws.{bit_past}
use Rattle.cards.proofs.CountLaws.{taken_out, count_same, count_out}

-- of the cards, those that are left stand as they were, and of the others those that are out are gone
abbrev pub Sifted : ℕ → ℕ → ℕ → (ℕ → Bool) → Type 0
Sifted cards left kept out = (x : ℕ) → bit kept x ≡ (bit cards x && (bit left x || not (out x)))

-- a card taken out of a set
abbrev Without : ℕ → ℕ → ℕ → Type 0
Without set less k = (x : ℕ) → bit less x ≡ (bit set x && not (eqb x k))

-- one card more was looked at
pub sifted_more : (cards left kept less fewer k : ℕ) (out : ℕ → Bool) → Sifted cards left kept out → Without left less k →
    ((x : ℕ) → bit fewer x ≡ (bit kept x && not (eqb x k && out k))) → Sifted cards less fewer out
sifted_more cards left kept less fewer k out s w v x =
    v x
    ∙ ap (λ (b : Bool). b && not (eqb x k && out k)) (s x)
    ∙ elim (cases_eq x k) [
      | inl e ↦ ap₂ (λ (t o : Bool). (bit cards x && (bit left x || not (out x))) && not (t && o)) (eq-eqb x k e) (ap out (sym e)) ∙ here (bit cards x) (bit left x) (out x)
          ∙ sym (ap (λ (t : Bool). bit cards x && ((bit left x && not t) || not (out x))) (eq-eqb x k e))
      | inr e ↦ ap (λ (t : Bool). (bit cards x && (bit left x || not (out x))) && not (t && out k)) (ne_eqb x k e) ∙ and-true _
          ∙ sym (ap (λ (t : Bool). bit cards x && (t || not (out x))) (ap (λ (t : Bool). bit left x && not t) (ne_eqb x k e) ∙ and-true _))
    ]
    ∙ ap (λ (b : Bool). bit cards x && (b || not (out x))) (sym (w x))
  where
    here : (c l o : Bool) → ((c && (l || not o)) && not o) ≡ (c && ((l && false) || not o))
    here false l o = refl
    here true false true = refl
    here true false false = refl
    here true true true = refl
    here true true false = refl

-- none is left
pub sifted_all : (cards left kept : ℕ) (out : ℕ → Bool) → Sifted cards left kept out → left < 2 ^ deck → ((x : ℕ) → x < deck → bit left x ≡ false) →
    (x : ℕ) → bit kept x ≡ (bit cards x && not (out x))
sifted_all cards left kept out s low empty x =
    let gone : bit left x ≡ false = elim (cases_lt x deck) [ inl l ↦ empty x l | inr l ↦ bit_past left x deck low l ] in
    s x ∙ ap (λ (b : Bool). bit cards x && (b || not (out x))) gone

-- one card fewer is left
pub fewer_left : (left less k : ℕ) → Without left less k → k < deck → bit left k ≡ true → count (bit less) deck < count (bit left) deck
fewer_left left less k w l there =
    omega (arith, count_same (bit less) (taken_out (bit left) k) deck (λ x _. w x), count_out (bit left) k deck l there)
