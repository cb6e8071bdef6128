-- Two tables at which each card of one has its match at the other are worth the same: our side can take, and be held to, the same numbers. Assumes nothing.
use Rattle.std.proofs.Common.{◌≡◌, ℕ, Bool, true, false, sym, refl, ◌∙◌}
use Rattle.std.proofs.lemmas.Bool.{both_ways}
use Rattle.cards.specs.Table.{Table}
use Rattle.tricks.specs.Rules.{our_turn, may, after, gains}
use Rattle.tricks.specs.Plays.{Takes, none, we_play, they_play, Held, out_of_cards, they_do, we_do, Worth}

-- a card at u that matches card c at t: it may be played, gains as much, and leaves tables that are related again
pub record Match (R : Table → Table → Type 0) (t u : Table) (c : ℕ) : Type 0 where
  pub card : ℕ
  pub legal : may u card ≡ true
  pub gain : gains u card ≡ gains t c
  pub next : R (after t c) (after u card)

-- related tables have the same side to play, and a match for each card of either
pub record Alike (R : Table → Table → Type 0) : Type 0 where
  pub sides : (t u : Table) → R t u → our_turn u ≡ our_turn t
  pub there : (t u : Table) → R t u → (c : ℕ) → may t c ≡ true → Match R t u c
  pub back : (t u : Table) → R t u → (c : ℕ) → may u c ≡ true → Match (λ a b. R b a) u t c

module _ (R : Table → Table → Type 0) (alike : Alike R) where
  pub takes_same : {k : ℕ} {t : Table} (u : Table) → R t u → Takes k t → Takes k u
  takes_same u r none = none
  takes_same u r (we_play {n = k} {t = t} c o m a) =
      let x = alike.there t u r c m in
      we_play x.card (alike.sides t u r ∙ o) x.legal (rw x.gain (takes_same (after u x.card) x.next a))
  takes_same u r (they_play {n = k} {t = t} c o m f) =
      let x = alike.there t u r c m in
      they_play x.card (alike.sides t u r ∙ o) x.legal
      (λ d md. let y = alike.back t u r d md in rw (← y.gain) (takes_same (after u d) y.next (f y.card y.legal)))

  pub held_same : {k : ℕ} {t : Table} (u : Table) → R t u → Held k t → Held k u
  held_same u r (out_of_cards {t = t} f) = out_of_cards (λ c. go c (may u c) refl)
    where
      go : (c : ℕ) (b : Bool) → may u c ≡ b → may u c ≡ false
      go c true e = let y = alike.back t u r c e in absurd (both_ways _ (f y.card) y.legal)
      go c false e = e
  held_same u r (they_do {n = k} {t = t} c o m g a) =
      let x = alike.there t u r c m in
      they_do x.card (alike.sides t u r ∙ o) x.legal (rw x.gain g) (rw x.gain (held_same (after u x.card) x.next a))
  held_same u r (we_do {n = k} {t = t} c o m g f) =
      let x = alike.there t u r c m in
      we_do x.card (alike.sides t u r ∙ o) x.legal
      (λ d md. let y = alike.back t u r d md in rw (← y.gain) (g y.card y.legal))
      (λ d md. let y = alike.back t u r d md in rw (← y.gain) (held_same (after u d) y.next (f y.card y.legal)))

  pub worth_same : (t u : Table) (v : ℕ) → R t u → Worth t v → Worth u v
  worth_same t u v r (a, b) = (takes_same u r a, held_same u r b)

-- the relation read the other way
pub alike_back : (R : Table → Table → Type 0) → Alike R → Alike (λ a b. R b a)
alike_back R a = record { sides = λ t u r. sym (a.sides u t r); there = λ t u r. a.back u t r; back = λ t u r. a.there u t r }
