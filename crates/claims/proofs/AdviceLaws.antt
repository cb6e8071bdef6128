-- The advice: there is one while a trick is left, and it is the lowest card that keeps the worth, for either side. Assumes nothing.
use Rattle.std.proofs.Common.{◌≡◌, ℕ, ◌-◌, ◌<◌, true, Some, None, Option, sym, refl, ap, subst, inl, inr, arith}
use Rattle.std.proofs.lemmas.Bool.{both_ways, and_left, cases_Bool, cases_lt}
use Rattle.cards.specs.Table.{Table, deck, Sound}
use Rattle.tricks.specs.Rules.{our_turn, may, after, gains}
use Rattle.tricks.specs.Plays.{Worth}
use Rattle.tricks.specs.Statements.{left_after}
use Rattle.tricks.proofs.MayLaws.{may_parts}
use Rattle.tricks.proofs.Stays.{keeps_sound}
use Rattle.worth.specs.Value.{worth_of}
use Rattle.tricks.proofs.CardsLeft.{some_trick}
use Rattle.worth.proofs.ValueLaws.{value_is_worth, worth_is}
use Rattle.claims.specs.Advice.{keeps, advice, or_zero, advised, Keeps, AdviceExists}
use Rattle.claims.specs.Answer.{Best, Named}
use Rattle.claims.proofs.LowestLaws.{Lowest, lowest_some, lowest_empty}
use Rattle.claims.proofs.CardLaws.{kept, keeping, some_keeps}

-- with a trick left the advice is the lowest card that keeps the worth, and with none there is none
pub advice_some : (t : Table) (n : ℕ) → Sound t n → 0 < n → (c : ℕ) × (advice t ≡ Some c) × Lowest (keeps t) c
advice_some t n s l =
    let (c, y) = some_keeps t n s l in
    lowest_some (keeps t) deck c (may_parts t c (kept t c y).0).card y

pub advice_none : (t : Table) → Sound t 0 → advice t ≡ None
advice_none t s = lowest_empty (keeps t) deck (λ c. elim (cases_Bool (may t c)) [ inl m ↦ absurd (omega (arith, some_trick t 0 c s m)) | inr m ↦ and_left _ _ m ])

-- so the card advised is that one
pub advised_lowest : (t : Table) (n : ℕ) → Sound t n → 0 < n → Lowest (keeps t) (advised t)
advised_lowest t n s l = let (c, e, low) = advice_some t n s l in subst (Lowest (keeps t)) (sym (ap or_zero e)) low

module _ (t : Table) (n v : ℕ) (s : Sound t n) (w : Worth t v) where
  -- what keeps the worth keeps it over whole plays, and the other way round
  keeps_of : (c : ℕ) → keeps t c ≡ true → Keeps t v c
  keeps_of c y =
      let (m, e) = kept t c y in
      let q : worth_of (after t c) ≡ v - gains t c = omega (arith, worth_is t n v s w) in
      (omega (arith, worth_is t n v s w), subst (Worth (after t c)) q (value_is_worth (after t c) (left_after t n) (keeps_sound t n c s m)))

  of_keeps : (c : ℕ) → may t c ≡ true → Keeps t v c → keeps t c ≡ true
  of_keeps c m (g, k) = keeping t c m (omega (arith, worth_is t n v s w, worth_is (after t c) (left_after t n) _ (keeps_sound t n c s m) k))

pub advice_exists : AdviceExists
advice_exists side = record {
  legal = λ t n s o l. (kept t (advised t) (advised_lowest t n s l).passes).0;
  keeps = λ t n v s o l w. keeps_of t n v s w (advised t) (advised_lowest t n s l).passes;
  lowest = λ t n v c s o l w b m k. both_ways _ ((advised_lowest t n s l).before c b) (of_keeps t n v s w c m k);
}

-- ---- the advice as it is named to who asks
named_some : (t : Table) (n : ℕ) → Sound t n → 0 < n → (c : ℕ) → advised t ≡ c → (v : ℕ) → Worth t v → Best t v c
named_some t n s l c e v w =
    let a = advice_exists (our_turn t) in
    subst (Best t v) e
    (record { legal = a.legal t n s refl l; keeps = a.keeps t n v s refl l w; lowest = λ d b m k. a.lowest t n v d s refl l w b m k })

pub named : (t : Table) (n : ℕ) → Sound t n → (o : Option ℕ) → o ≡ advice t → Named t n o
named t n s None e = elim (cases_lt 0 n) [
  | inl l ↦ let (c, f, _) = advice_some t n s l in let z : ◌≡◌ {A = ℕ} 0 1 = cc in absurd (omega arith)
  | inr l ↦ omega arith
]
named t n s (Some c) e = elim (cases_lt 0 n) [
  | inl l ↦ named_some t n s l c (ap or_zero (sym e))
  | inr l ↦ let none_left : n ≡ 0 = omega arith in let f = advice_none t (subst (Sound t) none_left s) in let z : ◌≡◌ {A = ℕ} 0 1 = cc in absurd (omega arith)
]
