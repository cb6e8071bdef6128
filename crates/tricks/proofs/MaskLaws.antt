-- The bits of a suit. Assumes nothing.
use Rattle.std.proofs.Common.{◌≡◌, ℕ, zero, suc, ◌*◌, ◌^◌, ◌<◌, Bool, true, false, not, ◌&&◌, eqb, sym, refl, ap, ◌∙◌, inl, inr, arith, lit<}
use lib.Bits.{bit_and}
use Rattle.std.proofs.lemmas.Bool.{cases_lt, cases_eq, and_parts, ne_eqb}
use Rattle.cards.specs.Table.{deck, suit}
use Rattle.cards.specs.Bits.{bit}
use Rattle.cards.specs.Numbers.{suit_number}
use Rattle.cards.specs.declared.card.Suit.{Suit}
use Rattle.cards.specs.declared.card.Suit.TheVariants.{Clubs, Diamonds, Hearts, Spades}
use Rattle.cards.proofs.BitLaws.{bit-and, bit_past}

abbrev same : Bool → Bool → Bool
same true b = b
same false b = not b

-- do two sets agree on the first n cards
abbrev agree : (ℕ → Bool) → (ℕ → Bool) → ℕ → Bool
agree f g zero = true
agree f g (suc n) = same (f n) (g n) && agree f g n

same_is : (a b : Bool) → same a b ≡ true → a ≡ b
same_is true b e = sym e
same_is false true e = e
same_is false false e = refl

agree_at : (f g : ℕ → Bool) (n : ℕ) → agree f g n ≡ true → (x : ℕ) → x < n → f x ≡ g x
agree_at f g zero e x l = absurd (omega arith)
agree_at f g (suc n) e x l =
    let (here, rest) = and_parts _ _ e in
    elim (cases_eq x n) [ inl q ↦ ap f q ∙ same_is _ _ here ∙ ap g (sym q) | inr q ↦ agree_at f g n rest x (omega arith) ]

abbrev mask : ℕ → ℕ
mask s = 8191 * 2 ^ (13 * s)

-- the thirteen bits are the suit's, by a look at each card
mask_bits : (s : ℕ) → mask s < 2 ^ deck → s < 4 → agree (bit (mask s)) (λ x. eqb (suit x) s) deck ≡ true → (x : ℕ) → bit (mask s) x ≡ eqb (suit x) s
mask_bits s low four looked x = elim (cases_lt x deck) [
  | inl l ↦ agree_at (bit (mask s)) (λ y. eqb (suit y) s) deck looked x l
  | inr l ↦ bit_past (mask s) x deck low l ∙ sym (ne_eqb (suit x) s (λ e. omega arith))
]

mask_of : (s : Suit) (x : ℕ) → bit (mask (suit_number s)) x ≡ eqb (suit x) (suit_number s)
mask_of Clubs = mask_bits 0 (lit< tt) (lit< tt) refl
mask_of Diamonds = mask_bits 1 (lit< tt) (lit< tt) refl
mask_of Hearts = mask_bits 2 (lit< tt) (lit< tt) refl
mask_of Spades = mask_bits 3 (lit< tt) (lit< tt) refl

-- a hand's cards of a suit
pub bit_suit : (h m : ℕ) (s : Suit) → m ≡ mask (suit_number s) → (x : ℕ) → bit (bit_and h m) x ≡ (bit h x && eqb (suit x) (suit_number s))
bit_suit h m s e x = bit-and h m x ∙ ap (λ (b : Bool). bit h x && b) (ap (λ (k : ℕ). bit k x) e ∙ mask_of s x)
