-- Why a card is refused at a table in order. Assumes nothing.
use Rattle.std.proofs.Common.{◌≡◌, ℕ, ◌<◌, Bool, true, false, ltb, List, [], ◌∷◌, length, get_or, sym, refl, ap, subst, inl, inr, arith}
use Rattle.std.proofs.lemmas.Bool.{cases_Bool, cases_eq, cases_lt, eq-eqb, ne_eqb, eqb-false, le-ltb, both_ways, true≢false, or_parts, not-false}
use Rattle.cards.specs.Table.{Table, pick, one, deck, suit, has_suit, count, Sound}
use Rattle.cards.proofs.CountLaws.{count_some, count_pos}
use Rattle.tricks.specs.Rules.{turn, follows, may}
use Rattle.tricks.proofs.MayLaws.{may_from}
use Rattle.tricks.proofs.SuitLaws.{has_suit_some}
use Rattle.referee.specs.Row.{why}
use Rattle.referee.specs.Right.{Nobody, Holds, led, Revokes, Why, after_last, not_held, revokes}
use Rattle.referee.proofs.CardsLaws.{share}

-- a card that does not follow is of another suit than the one led, of which the hand has a card
not_followed : (h : ℕ → Bool) (trick : List ℕ) (c : ℕ) → follows h trick c ≡ false →
    (0 < length trick) × (suit c ≡ suit (get_or trick 0 0) → ⊥) × (has_suit h (suit (get_or trick 0 0)) deck ≡ true)
unfolding follows
not_followed h [] c e = absurd (true≢false e)
not_followed h (x ∷ xs) c e = let (a, b) = or_parts _ _ e in (omega arith, eqb-false _ _ a, not-false _ b)

module _ (t : Table) (n : ℕ) (s : Sound t n) where
  -- where who is to play has no card, nobody has
  pub nobody : count (t.hand (turn t)) deck ≡ 0 → Nobody t
  nobody e p c l = elim (cases_Bool (t.hand p c)) [
    | inl h ↦
        let own = s.have (length t.trick) s.short in
        let last : one (ltb (length t.trick) (length t.trick)) ≡ 0 = ap one (le-ltb (length t.trick) (length t.trick) (omega arith)) in
        let none : n ≡ 0 = omega arith in
        absurd (omega (arith, share t n p s l, count_pos (t.hand p) c deck (s.cards c p h) h))
    | inr h ↦ h
  ]

  somebody : (count (t.hand (turn t)) deck ≡ 0 → ⊥) → Nobody t → ⊥
  somebody ne none =
      let some : 0 < count (t.hand (turn t)) deck = elim (cases_lt 0 (count (t.hand (turn t)) deck)) [ inl l ↦ l | inr l ↦ absurd (ne (omega arith)) ] in
      let (c, l, e) = count_some (t.hand (turn t)) deck some in
      both_ways _ (none (turn t) c (omega arith)) e

  revoke : (c : ℕ) → may t c ≡ false → t.hand (turn t) c ≡ true → Revokes t c
  revoke c m h =
      let card : c < deck = s.cards c (turn t) h in
      let against : follows (t.hand (turn t)) t.trick c ≡ false = elim (cases_Bool (follows (t.hand (turn t)) t.trick c)) [
        | inl f ↦ absurd (both_ways _ m (may_from t c (record { card = card; owned = h; goes = f })))
        | inr f ↦ f
      ] in
      let (lies, other, some) = not_followed (t.hand (turn t)) t.trick c against in
      let (d, l, k, q) = has_suit_some (t.hand (turn t)) (led t) deck some in
      record { held = (card, h); lies = lies; other = other; could = (d, (l, k), q) }

  -- the number of the definition is that of what is wrong with the card
  pub why_right : (c : ℕ) → may t c ≡ false → Why t c (why t c)
  why_right c m = elim (cases_eq (count (t.hand (turn t)) deck) 0) [
    | inl e ↦ subst (λ (b : Bool). Why t c (pick b 9 (pick (t.hand (turn t) c) 8 7))) (sym (eq-eqb _ _ e)) (after_last (nobody e))
    | inr e ↦ subst (λ (b : Bool). Why t c (pick b 9 (pick (t.hand (turn t) c) 8 7))) (sym (ne_eqb _ _ e))
        (elim (cases_Bool (t.hand (turn t) c)) [
          | inl h ↦ subst (λ (b : Bool). Why t c (pick b 8 7)) (sym h) (revokes (revoke c m h))
          | inr h ↦ subst (λ (b : Bool). Why t c (pick b 8 7)) (sym h) (not_held (somebody e) (λ k. both_ways _ h k.1))
        ])
  ]

nobody_holds : (t : Table) (c : ℕ) → Nobody t → Holds t c → ⊥
nobody_holds t c none held = both_ways _ (none (turn t) c (omega arith)) held.1

-- a card is refused for one reason
pub why_one : (t : Table) (c : ℕ) {m n : ℕ} → Why t c m → Why t c n → m ≡ n
why_one t c (after_last a) (after_last b) = refl
why_one t c (after_last a) (not_held b k) = absurd (b a)
why_one t c (after_last a) (revokes r) = absurd (nobody_holds t c a r.held)
why_one t c (not_held a k) (after_last b) = absurd (a b)
why_one t c (not_held a k) (not_held b l) = refl
why_one t c (not_held a k) (revokes r) = absurd (k r.held)
why_one t c (revokes r) (after_last b) = absurd (nobody_holds t c b r.held)
why_one t c (revokes r) (not_held b k) = absurd (k r.held)
why_one t c (revokes r) (revokes q) = refl

-- and never for want of places
pub why_of_card : {t : Table} {c n : ℕ} → Why t c n → n < 10
why_of_card (after_last a) = omega arith
why_of_card (not_held a k) = omega arith
why_of_card (revokes r) = omega arith
