-- A hand read card by card, and the hands one after the other. Assumes nothing.
use Rattle.std.proofs.Common.{◌≡◌, ℕ, suc, ◌+◌, ◌<◌, ◌≤◌, Bool, true, false, not, ◌||◌, eqb, ltb, ◌≢◌, List, [], ◌∷◌, ◌++◌, length, get_or, take, drop, set, Some, None, Option, sym, refl, ap, ◌∙◌, ap₂, add-zero, add-one, arith, length-set, get_or-set_other, get_or-set_same, below_more}
use mathlib.Core.Path.{fun_ext}
use mathlib.Core.Bool.{or_assoc}
use Rattle.std.proofs.lemmas.Bool.Decides.{nat_tests}
use Rattle.std.proofs.lemmas.List.{at_drop_more, drop_all, take_more, take_all}
use Rattle.std.proofs.lemmas.List.Recursion.{or_push}
use Rattle.cards.specs.Table.{pick, deck, count}
use Rattle.cards.specs.Bits.{bit}
use Rattle.cards.specs.Deal.{start_of, number_byte, trick_of, cards_of, before, has, first_bad, hand_fault}
use Rattle.cards.specs.Parts.{Gathered, Dealt}
use Rattle.cards.proofs.CountLaws.{or_false, count_same, count_none, count_in}
use Rattle.cards.proofs.DealLaws.{within, part_length, has_append}

pub has_push : (xs : List ℕ) (c x : ℕ) → has (xs ++ (c ∷ [])) x ≡ (has xs x || eqb x c)
unfolding has
has_push xs c x = or_push (λ cs. has cs x) (λ d. eqb x d) refl (λ _ _. refl) xs c

-- a row of cards, after those of the set old, with the first i read into a set
abbrev pub both : (ℕ → Bool) → (ℕ → Bool) → ℕ → Bool
both old h x = old x || h x

pub record Going (old : ℕ → Bool) (place : ℕ) (cs : List ℕ) (hand i : ℕ) : Type 0 where
  pub rest : first_bad (both old (bit hand)) (place + i) (drop i cs) ≡ first_bad old place cs
  pub holds : (x : ℕ) → bit hand x ≡ has (take i cs) x
  pub many : count (bit hand) deck ≡ i

-- a card that stands there is not good
abbrev pub bad : (ℕ → Bool) → ℕ → ℕ → Bool
bad old hand c = not (ltb c deck) || both old (bit hand) c

step : (old : ℕ → Bool) (place i : ℕ) (cs : List ℕ) (b : Bool) → i < length cs → (not (ltb (get_or cs i 0) deck) || old (get_or cs i 0)) ≡ b →
    first_bad old place (drop i cs) ≡ pick b (Some place) (first_bad (λ x. old x || eqb x (get_or cs i 0)) (suc place) (drop (i + 1) cs))
unfolding first_bad
step old place i cs b l e =
    at_drop_more (first_bad old place) cs i 0 l
    ∙ ap (λ (t : Bool). pick t (Some place) (first_bad (λ x. old x || eqb x (get_or cs i 0)) (suc place) (drop (i + 1) cs))) e

pub going_none : (old : ℕ → Bool) (place : ℕ) (cs : List ℕ) (hand : ℕ) → ((x : ℕ) → bit hand x ≡ false) → Going old place cs hand 0
unfolding has
going_none old place cs hand e = record {
  rest = ap₂ (λ (s : ℕ → Bool) (p : ℕ). first_bad s p cs) (fun_ext (λ x. ap (λ (b : Bool). old x || b) (e x) ∙ or_false (old x))) (add-zero place);
  holds = e;
  many = count_none (bit hand) deck e;
}

pub going_more : (old : ℕ → Bool) (place : ℕ) (cs : List ℕ) (hand more i c : ℕ) → Going old place cs hand i → i < length cs → c ≡ get_or cs i 0 → bad old hand (get_or cs i 0) ≡ false →
    ((x : ℕ) → bit more x ≡ (bit hand x || eqb x c)) → Going old place cs more (i + 1)
going_more old place cs hand more i c g l e fine add = record {
  rest =
      ap₂ (λ (s : ℕ → Bool) (p : ℕ). first_bad s p (drop (i + 1) cs)) (fun_ext (λ x. ap (λ (b : Bool). old x || b) (add x) ∙ sym (or_assoc (old x) (bit hand x) (eqb x c)))) (let q : place + (i + 1) ≡ suc (place + i) = omega arith in q)
      ∙ ap (λ (d : ℕ). first_bad (λ x. both old (bit hand) x || eqb x d) (suc (place + i)) (drop (i + 1) cs)) e
      ∙ sym (step (both old (bit hand)) (place + i) i cs false l fine) ∙ g.rest;
  holds = λ x. add x ∙ ap₂ (λ (b : Bool) (d : ℕ). b || eqb x d) (g.holds x) e ∙ sym (has_push (take i cs) (get_or cs i 0) x) ∙ ap (λ (ys : List ℕ). has ys x) (sym (take_more cs i 0 l));
  many = count_same (bit more) (λ x. bit hand x || eqb x c) deck (λ x _. add x) ∙ count_in (bit hand) c deck low fresh ∙ ap (λ (n : ℕ). n + 1) g.many;
}
  where
    low : c < deck
    low = grind (arith, nat_tests)

    fresh : bit hand c ≡ false
    fresh = grind (arith, nat_tests)

pub going_bad : (old : ℕ → Bool) (place : ℕ) (cs : List ℕ) (hand i : ℕ) → Going old place cs hand i → i < length cs → bad old hand (get_or cs i 0) ≡ true → first_bad old place cs ≡ Some (place + i)
going_bad old place cs hand i g l b = sym g.rest ∙ step (both old (bit hand)) (place + i) i cs true l b

pub going_all : (old : ℕ → Bool) (place : ℕ) (cs : List ℕ) (hand i : ℕ) → Going old place cs hand i → length cs ≡ i → (first_bad old place cs ≡ None) × Gathered cs hand
unfolding first_bad
going_all old place cs hand i g l = (
  sym g.rest ∙ ap (first_bad (both old (bit hand)) (place + i)) (drop_all i cs (omega arith)),
  record {
    holds = λ x. g.holds x ∙ ap (λ (ys : List ℕ). has ys x) (take_all i cs (omega arith));
    many = g.many ∙ sym l;
  },
)

-- the hands of a deal, one after the other

pub dealt_none : (bs hands : List ℕ) (taken : ℕ) → length hands ≡ 4 → ((x : ℕ) → bit taken x ≡ has (trick_of bs) x) → Dealt bs 0 hands taken
unfolding before
dealt_none bs hands taken l e = record {
  four = l;
  all = e;
  each = λ p k. absurd (omega arith);
  many = λ p k. absurd (omega arith);
}

-- what a check finds depends on the cards before, and not on how they are kept
pub fault_at : (bs hands : List ℕ) (taken n : ℕ) (o : Option ℕ) → Dealt bs n hands taken → first_bad (bit taken) (start_of bs n + 1) (cards_of bs n) ≡ o → hand_fault bs n ≡ o
fault_at bs hands taken n o d e = ap (λ (s : ℕ → Bool). first_bad s (start_of bs n + 1) (cards_of bs n)) (sym (fun_ext d.all)) ∙ e

pub dealt_more : (bs hands : List ℕ) (taken hand more n : ℕ) → Dealt bs n hands taken → n < 4 → start_of bs 4 ≤ length bs → Gathered (cards_of bs n) hand →
    ((x : ℕ) → bit more x ≡ (bit taken x || bit hand x)) → Dealt bs (n + 1) (set hands n hand) more
unfolding before
dealt_more bs hands taken hand more n d l w g add = record {
  four = length-set hands n hand ∙ d.four;
  all = λ x. rw add-one (add x ∙ ap₂ (λ (a b : Bool). a || b) (d.all x) (g.holds x) ∙ sym (has_append (before bs n) (cards_of bs n) x));
  each = below_more (λ p. (x : ℕ) → bit (get_or (set hands n hand) p 0) x ≡ has (cards_of bs p) x) n (λ p k x. rw (other p k) (d.each p k x)) (λ x. rw own (g.holds x));
  many = below_more (λ p. count (bit (get_or (set hands n hand) p 0)) deck ≡ number_byte bs p) n (λ p k. rw (other p k) (d.many p k))
      (rw own (g.many ∙ part_length bs (start_of bs n + 1) (number_byte bs n) (within bs n l w)));
}
  where
    own : get_or (set hands n hand) n 0 ≡ hand
    own = get_or-set_same hands n hand 0 (omega (arith, d.four))

    other : (p : ℕ) → p < n → get_or (set hands n hand) p 0 ≡ get_or hands p 0
    other p k = let ne : p ≢ n = omega arith in get_or-set_other hands n p hand 0 ne
