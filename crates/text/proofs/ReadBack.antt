-- A card read back from its text. Assumes nothing.
use Rattle.std.proofs.Common.{◌≡◌, ℕ, zero, suc, ◌+◌, ◌*◌, ◌<◌, Bool, true, false, T, eqb, List, [], ◌∷◌, get_or, codes, sym, ap, ◌∙◌, subst, inl, inr, not-suc-le-zero, arith, eqb→eq}
use Rattle.std.proofs.lemmas.Bool.{cases_eq}
use Rattle.cards.specs.Table.{pick, deck}
use Rattle.text.specs.Cards.{card_text}
use Rattle.text.specs.Apart.{CardsApart}

-- the first place of a letter
abbrev place : List ℕ → ℕ → ℕ
place [] x = 0
place (y ∷ ys) x = pick (eqb x y) 0 (suc (place ys x))

-- the card that a text says
abbrev read : List ℕ → ℕ
read text = 13 * place (codes "CDHS") (get_or text 0 0) + place (codes "23456789TJQKA") (get_or text 1 0)

-- does a test hold of all numbers below n
abbrev all_below : (ℕ → Bool) → ℕ → Bool
all_below p zero = true
all_below p (suc n) = pick (p n) (all_below p n) false

one_of : (b rest : Bool) → T (pick b rest false) → T b × T rest
one_of true rest t = (tt, t)
one_of false rest t = absurd t

at : (p : ℕ → Bool) (n : ℕ) → T (all_below p n) → (k : ℕ) → k < n → T (p k)
at p zero t k h = absurd (not-suc-le-zero h)
at p (suc n) t k h = elim (cases_eq k n) [
  | inl e ↦ subst (λ (m : ℕ). T (p m)) (sym e) (one_of (p n) (all_below p n) t).0
  | inr e ↦ at p n (one_of (p n) (all_below p n) t).1 k (omega arith)
]

read_back : (c : ℕ) → c < deck → read (card_text c) ≡ c
read_back c h = eqb→eq (read (card_text c)) c (at (λ k. eqb (read (card_text k)) k) deck tt c h)

pub cards_apart : CardsApart
cards_apart c d hc hd e = sym (read_back c hc) ∙ ap read e ∙ read_back d hd
