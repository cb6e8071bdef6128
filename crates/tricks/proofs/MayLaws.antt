-- What may be played: what it says of a card, and that there is such a card. Assumes nothing.
use Rattle.std.proofs.Common.{◌≡◌, ℕ, ◌<◌, ◌≤◌, Bool, true, false, ◌&&◌, ltb, List, [], ◌∷◌, Option, sym, refl, ap, ◌∙◌, inl, inr}
use Rattle.std.proofs.lemmas.Bool.{ltb-true, lt-ltb, eq-eqb, cases_Bool, cases_lt, and_parts, and_from, and_right, or_left, or_right, not_from_false}
use Rattle.cards.specs.Table.{Table, deck, suit, has_suit, count}
use Rattle.tricks.specs.Rules.{turn, follows, may}
use Rattle.tricks.specs.Statements.{SomebodyMay}
use Rattle.tricks.specs.Led.{led_suit, goes}
use Rattle.cards.proofs.CountLaws.{count_some}
use Rattle.tricks.proofs.SuitLaws.{has_suit_some}

-- card c is one, in the hand of the player to play, and follows the suit led
pub record Playable (t : Table) (c : ℕ) : Type 0 where
  pub card : c < deck
  pub owned : t.hand (turn t) c ≡ true
  pub goes : follows (t.hand (turn t)) t.trick c ≡ true

pub may_parts : (t : Table) (c : ℕ) → may t c ≡ true → Playable t c
may_parts t c m =
    let (a, f) = and_parts _ _ m in
    let (l, h) = and_parts _ _ a in
    record { card = ltb-true c deck l; owned = h; goes = f }

pub may_from : (t : Table) (c : ℕ) → Playable t c → may t c ≡ true
may_from t c p = and_from _ _ (and_from _ _ (lt-ltb c deck p.card) p.owned) p.goes

-- some card of a hand follows, while it has any
pub some_follows : (h : ℕ → Bool) (xs : List ℕ) → 0 < count h deck → (c : ℕ) × (c < deck) × (h c ≡ true) × (follows h xs c ≡ true)
unfolding follows
some_follows h [] some = let (c, l, e) = count_some h deck some in (c, l, e, refl)
some_follows h (y ∷ ys) some = elim (cases_Bool (has_suit h (suit y) deck)) [
  | inl e ↦ let (c, l, k, q) = has_suit_some h (suit y) deck e in (c, l, k, or_left _ _ (eq-eqb _ _ q))
  | inr e ↦ let (c, l, k) = count_some h deck some in (c, l, k, or_right _ _ (not_from_false _ e))
]

pub somebody_may : SomebodyMay
somebody_may t n s some =
    let (c, l, k, f) = some_follows (t.hand (turn t)) t.trick some in
    (c, may_from t c (record { card = l; owned = k; goes = f }))

-- what goes on a trick, by the suit led
follows_is : (h : ℕ → Bool) (trick : List ℕ) (c : ℕ) → goes h (led_suit trick) c ≡ follows h trick c
unfolding follows
follows_is h [] c = refl
follows_is h (x ∷ xs) c = refl

-- what may be played, by the hand of the player to play and the suit led
pub may_is : (t : Table) (h : ℕ → Bool) (led : Option ℕ) (c : ℕ) → h ≡ t.hand (turn t) → led ≡ led_suit t.trick → (deck ≤ c → h c ≡ false) →
    (h c && goes h led c) ≡ may t c
may_is t h led c own first past =
    ap (λ (b : Bool). b && goes h led c) known
    ∙ ap (λ (l : Option ℕ). (ltb c deck && h c) && goes h l c) first
    ∙ ap (λ (b : Bool). (ltb c deck && h c) && b) (follows_is h t.trick c)
    ∙ ap (λ (k : ℕ → Bool). (ltb c deck && k c) && follows k t.trick c) own
  where
    known : h c ≡ (ltb c deck && h c)
    known = elim (cases_lt c deck) [
      | inl l ↦ sym (ap (λ (b : Bool). b && h c) (lt-ltb c deck l))
      | inr l ↦ past l ∙ sym (and_right _ _ (past l))
    ]
