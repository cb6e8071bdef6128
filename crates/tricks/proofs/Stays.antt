-- A table stays in order under a card that may be played. Assumes nothing.
use Rattle.std.proofs.Common.{◌≡◌, ℕ, suc, ◌+◌, ◌-◌, ◌%◌, ◌<◌, Bool, true, false, eqb, ltb, ◌⊎◌, List, [], ◌∷◌, ◌++◌, length, get_or, sym, refl, ap, ◌∙◌, inl, inr, add-one, arith}
use Rattle.std.proofs.lemmas.Bool.{eqb-true, eqb-false, cases_eq, cases_lt, cases_Bool, and_parts, and_left, or_cases, lt-ltb, le-ltb, not-true, both_ways}
use Rattle.std.proofs.lemmas.List.{length_push, get_or_append_left, get_or_push, take_all}
use Rattle.cards.specs.Table.{Table, pick, one, deck, suit, has_suit, count, Sound, InOrder}
use Rattle.tricks.specs.Rules.{turn, follows, may, without, after, winner}
use Rattle.tricks.specs.Statements.{KeepsSound, StaysSound, left_after}
use Rattle.tricks.proofs.CountLaws.{count_after, without_own}
use Rattle.tricks.proofs.SuitLaws.{fewer_suits, follows_led}
use Rattle.tricks.proofs.TrickLaws.{winner_low}
use Rattle.tricks.proofs.MayLaws.{may_parts}

-- with one more card in a trick of m, the places before are those before m, and m
step_tests : (i m : ℕ) → one (ltb i m) + one (eqb i m) ≡ one (ltb i (suc m))
step_tests i m = grind arith

-- two places of a trick are one just where their players are
turn_test : (l i m : ℕ) → i < 4 → m < 4 → eqb ((l + i) % 4) ((l + m) % 4) ≡ eqb i m
turn_test l i m hi hm = grind arith

-- the table after card c: the trick is finished, or not
abbrev pub laid : Table → ℕ → Bool → Table
laid t c b = record { trump = t.trump; hand = without t c; leader = pick b (winner t (t.trick ++ (c ∷ []))) t.leader; trick = pick b [] (t.trick ++ (c ∷ [])) }

-- a hand has no card that it had not
pub still : (t : Table) (c p x : ℕ) → without t c p x ≡ true → t.hand p x ≡ true
still t c p x e = (and_parts _ _ e).0

module _ (t : Table) (n c : ℕ) (s : Sound t n) (m : may t c ≡ true) where
  -- the cards of each player after the card, by its place in the trick
  have_after : (i : ℕ) → i < 4 → count (without t c ((t.leader + i) % 4)) deck + one (ltb i (suc (length t.trick))) ≡ n
  have_after i l =
      let q : ℕ = (t.leader + i) % 4 in
      let p = may_parts t c m in
      let gone = count_after t c q p.owned p.card in
      let had = s.have i l in
      let same : one (eqb q (turn t)) ≡ one (eqb i (length t.trick)) = ap one (turn_test t.leader i (length t.trick) l s.short) in
      omega (arith, step_tests i (length t.trick))

  once_after : (p q x : ℕ) → p < 4 → q < 4 → without t c p x ≡ true → without t c q x ≡ true → p ≡ q
  once_after p q x lp lq e f = s.once p q x lp lq (still t c p x e) (still t c q x f)

  cards_after : (x p : ℕ) → without t c p x ≡ true → x < deck
  cards_after x p e = s.cards x p (still t c p x e)

  -- the card that was played is in no hand
  gone_after : (p : ℕ) → p < 4 → without t c p c ≡ false
  gone_after p l = elim (cases_Bool (t.hand p c)) [
    | inl h ↦ without_own t c p (s.once p (turn t) c l (omega arith) h (may_parts t c m).owned)
    | inr h ↦ and_left _ _ h
  ]

  played_after : (i d : ℕ) → i < length (t.trick ++ (c ∷ [])) → (p : ℕ) → p < 4 → without t c p (get_or (t.trick ++ (c ∷ [])) i d) ≡ false
  played_after i d l p lp = elim (cases_lt i (length t.trick)) [
    | inl k ↦ rw (get_or_append_left t.trick (c ∷ []) d i k) (and_left _ _ (s.played i d k p lp))
    | inr k ↦ let e : length t.trick ≡ i = omega (arith, length_push t.trick c) in rw (get_or_push t.trick c d i e) (gone_after p lp)
  ]

  -- each has one card fewer when the trick is finished, whoever leads next
  have_done : (w i : ℕ) → length t.trick ≡ 3 → count (without t c ((w + i) % 4)) deck + one (ltb i 0) ≡ n - 1
  have_done w i three =
      let q : ℕ = (w + i) % 4 in
      let j : ℕ = ((q + 4) - t.leader) % 4 in
      let seat : (t.leader + j) % 4 ≡ q = omega (arith, s.leads) in
      let h = have_after j (omega arith) in
      let a : one (ltb j (suc (length t.trick))) ≡ 1 = ap one (lt-ltb j _ (omega arith)) in
      let b : one (ltb i 0) ≡ 0 = ap one (le-ltb i 0 (omega arith)) in
      omega (arith, rw seat at h)

  stays : Sound (after t c) (left_after t n)
  unfolding after
  stays = go (eqb (length t.trick) 3) refl
    where
      go : (b : Bool) → eqb (length t.trick) 3 ≡ b → Sound (laid t c b) (pick b (n - 1) n)
      go true e = record {
        leads = winner_low t _ s.leads;
        short = omega arith;
        once = once_after;
        cards = cards_after;
        played = λ i d l. absurd (omega arith);
        have = λ i l. have_done (winner t (t.trick ++ (c ∷ []))) i (eqb-true _ _ e);
      }
      go false e = record {
        leads = s.leads;
        short = (let ne = eqb-false _ _ e in let h = s.short in omega (arith, length_push t.trick c));
        once = once_after;
        cards = cards_after;
        played = played_after;
        have = λ i l. rw (length_push, add-one) (have_after i l);
      }

pub keeps_sound : KeepsSound
keeps_sound t n c s m = stays t n c s m

module _ (t : Table) (n c : ℕ) (o : InOrder t n) (m : may t c ≡ true) where
  abbrev longer : List ℕ
  longer = t.trick ++ (c ∷ [])

  -- a card of the trick: it lay there before, or is the one that was played
  earlier : (i : ℕ) → i < length t.trick → get_or longer i 0 ≡ get_or t.trick i 0
  earlier i l = get_or_append_left t.trick (c ∷ []) 0 i l

  latest : (i : ℕ) → i ≡ length t.trick → get_or longer i 0 ≡ c
  latest i e = get_or_push t.trick c 0 i (sym e)

  place : (i : ℕ) → i < length longer → (i < length t.trick) ⊎ (i ≡ length t.trick)
  place i l = elim (cases_lt i (length t.trick)) [ inl k ↦ inl k | inr k ↦ inr (omega (arith, length_push t.trick c)) ]

  low_after : (i : ℕ) → i < length longer → get_or longer i 0 < deck
  low_after i l = elim (place i l) [
    | inl k ↦ rw (earlier i k) (o.low i k)
    | inr e ↦ rw (latest i e) (may_parts t c m).card
  ]

  -- the card was in a hand, and so not on the table
  apart_after : (i j : ℕ) → i < j → j < length longer → get_or longer i 0 ≡ get_or longer j 0 → ⊥
  apart_after i j b l q = elim (place j l) [
    | inl k ↦ o.apart i j b k (sym (earlier i (omega arith)) ∙ q ∙ earlier j k)
    | inr e ↦
        let k : i < length t.trick = omega arith in
        let same : get_or t.trick i 0 ≡ c = sym (earlier i k) ∙ q ∙ latest j e in
        both_ways _ (ap (t.hand (turn t)) (sym same) ∙ o.sound.played i 0 k (turn t) (omega arith)) (may_parts t c m).owned
  ]

  -- who plays another suit than the one led has none of that
  void_led : 0 < length t.trick → (suit c ≡ suit (get_or t.trick 0 0) → ⊥) → has_suit (t.hand (turn t)) (suit (get_or t.trick 0 0)) deck ≡ false
  void_led l ne =
      let led = follows_led (t.hand (turn t)) t.trick (length t.trick) c (λ e. omega arith) l in
      let asked = sym led ∙ ap (λ (xs : List ℕ). follows (t.hand (turn t)) xs c) (take_all (length t.trick) t.trick (omega arith)) ∙ (may_parts t c m).goes in
      elim (or_cases _ _ asked) [ inl e ↦ absurd (ne (eqb-true _ _ e)) | inr e ↦ not-true _ e ]

  suited_after : (i : ℕ) → i < length longer → (suit (get_or longer i 0) ≡ suit (get_or longer 0 0) → ⊥) → has_suit (without t c ((t.leader + i) % 4)) (suit (get_or longer 0 0)) deck ≡ false
  suited_after i l ne = elim (cases_eq i 0) [
    | inl z ↦ absurd (ne (ap (λ (x : ℕ). suit (get_or longer x 0)) z))
    | inr z ↦
        let some : 0 < length t.trick = omega (arith, length_push t.trick c) in
        let q : ℕ = (t.leader + i) % 4 in
        let s : ℕ = suit (get_or t.trick 0 0) in
        let first : suit (get_or longer 0 0) ≡ s = ap (λ (x : ℕ). suit x) (earlier 0 some) in
        let void : has_suit (t.hand q) s deck ≡ false = elim (place i l) [
          | inl k ↦ o.suited i k (λ e. ne (ap (λ (x : ℕ). suit x) (earlier i k) ∙ e ∙ sym first))
          | inr e ↦ rw e (void_led some (λ f. ne (ap (λ (x : ℕ). suit x) (latest i e) ∙ f ∙ sym first)))
        ] in
        rw first (fewer_suits (t.hand q) (without t c q) s deck (still t c q) void)
  ]

  order_stays : InOrder (after t c) (left_after t n)
  unfolding after
  order_stays = go (eqb (length t.trick) 3) (keeps_sound t n c o.sound m)
    where
      go : (b : Bool) → Sound (laid t c b) (pick b (n - 1) n) → InOrder (laid t c b) (pick b (n - 1) n)
      go true s = record { sound = s; few = omega (arith, o.few); low = λ i l. absurd (omega arith); apart = λ i j b l. absurd (omega arith); suited = λ i l. absurd (omega arith) }
      go false s = record { sound = s; few = o.few; low = low_after; apart = apart_after; suited = suited_after }

pub stays_sound : StaysSound
stays_sound t n c o m = order_stays t n c o m
