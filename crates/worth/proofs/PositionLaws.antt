-- Positions and their keys, and what the slots keep. Assumes nothing.
use Rattle.std.proofs.Common.{◌≡◌, ℕ, zero, suc, ◌%◌, ◌^◌, ◌<◌, ◌≤◌, Bool, true, false, ◌&&◌, ◌||◌, eqb, List, length, get_or, take, set, replicate, sym, refl, ap, ◌∙◌, inl, inr, arith, lit<, length-set}
use Rattle.std.proofs.lemmas.Bool.{eqb-true, cases_eq, cases_lt, cases_Bool, and_from, and_parts, and_left, and_right, or_left, or_right, or_cases, both_ways}
use Rattle.std.proofs.lemmas.List.{length-map, get_or_past, get_or-set_same, get_or-set_other}
use Rattle.cards.specs.Table.{Table, deck, count}
use Rattle.cards.specs.Bits.{bit}
use Rattle.cards.specs.Hands.{bits_of, numbers}
use Rattle.cards.specs.Seen.{seen}
use Rattle.cards.specs.declared.board.Board.{Board}
use Rattle.cards.specs.declared.hand.Hand.{Hand}
use Rattle.cards.proofs.BitLaws.{bit_zero}
use Rattle.cards.proofs.CountLaws.{count_none}
use Rattle.cards.proofs.Order.{in_order}
use Rattle.tricks.specs.Rules.{after}
use Rattle.worth.specs.Value.{worth_of}
use Rattle.worth.specs.Lent.{SameSlots}
use Rattle.worth.specs.declared.positions.Positions.{Positions}
use Rattle.worth.specs.Positions.{held, Key, position, Under, True}
use Rattle.worth.proofs.ValueLaws.{worth_none}

-- ---- the tables that come of a root
pub under_root : (t : Table) → Under t t
under_root t = record { trump = refl; cards = λ p c e. e }

pub under_after : (root t u : Table) (c : ℕ) → Under root t → u ≡ after t c → Under root u
unfolding after
under_after root t u c h e =
    let go : Under root (after t c) = record { trump = h.trump; cards = λ p x held. h.cards p x (and_parts _ _ held).0 } in
    rw e go

pub under_trans : (root t u : Table) → Under root t → Under t u → Under root u
under_trans root t u h k = record { trump = k.trump ∙ h.trump; cards = λ p c e. h.cards p c (k.cards p c e) }

-- positions that are kept on are of the same root
pub under_same : (p q : Positions) → SameSlots p q → (t : Table) → Under (seen p.root) t → Under (seen q.root) t
under_same p q s t h = rw s.root h

-- ---- the key of a position stands for it
-- a card that is held is in the hand of a player
held_by : (t : Table) (c : ℕ) → held t c ≡ true → (q : ℕ) × (q < 4) × (t.hand q c ≡ true)
held_by t c e = elim (or_cases _ _ e) [
  | inl a ↦ elim (or_cases _ _ a) [ inl h ↦ (0, lit< tt, h) | inr h ↦ (1, lit< tt, h) ]
  | inr a ↦ elim (or_cases _ _ a) [ inl h ↦ (2, lit< tt, h) | inr h ↦ (3, lit< tt, h) ]
]

by_held : (t : Table) (p c : ℕ) → p < 4 → t.hand p c ≡ true → held t c ≡ true
by_held t zero c l h = or_left (t.hand 0 c || t.hand 1 c) _ (or_left _ _ h)
by_held t (suc zero) c l h = or_left (t.hand 0 c || t.hand 1 c) _ (or_right _ _ h)
by_held t (suc (suc zero)) c l h = or_right (t.hand 0 c || t.hand 1 c) _ (or_left _ _ h)
by_held t (suc (suc (suc zero))) c l h = or_right (t.hand 0 c || t.hand 1 c) _ (or_right (t.hand 2 c) _ h)
by_held t (suc (suc (suc (suc p)))) c l h = absurd (omega arith)

-- nobody sits past the four
nobody : (b : Board) (p c : ℕ) → 4 ≤ p → (seen b).hand p c ≡ false
nobody b p c l = ap (λ (h : ℕ). bit h c) (get_or_past (bits_of b.hands) p 0 (omega (arith, length-map b.hands (λ (h : Hand). h.bits), b.seats))) ∙ bit_zero c

-- each player's cards are those of the root that are still held
hand_is : (root : Board) (t : Table) (p c : ℕ) → Under (seen root) t → ((seen root).hand p c && held t c) ≡ t.hand p c
hand_is root t p c u = elim (cases_Bool ((seen root).hand p c)) [
  | inr f ↦ and_left _ _ f ∙ sym (elim (cases_Bool (t.hand p c)) [ inl h ↦ absurd (both_ways _ f (u.cards p c h)) | inr h ↦ h ])
  | inl f ↦
      let l : p < 4 = elim (cases_lt p 4) [ inl l ↦ l | inr l ↦ absurd (both_ways _ (nobody root p c l) f) ] in
      elim (cases_Bool (t.hand p c)) [
        | inl h ↦ and_from _ _ f (by_held t p c l h) ∙ sym h
        | inr h ↦ and_right ((seen root).hand p c) (held t c) (elim (cases_Bool (held t c)) [
          | inr e ↦ e
          | inl e ↦ let (q, k, g) = held_by t c e in absurd (both_ways _ h (ap (λ (r : ℕ). t.hand r c) ((in_order root).sound.once p q c l k f (u.cards q c g)) ∙ g))
        ]) ∙ sym h
      ]
]

-- board b came of the root and starts a trick, and k is its key
pub record Starting (root b : Board) (k : ℕ) : Type 0 where
  pub under : Under (seen root) (seen b)
  pub start : eqb b.played 0 ≡ true
  pub key : Key (seen b) k

position_is : (root b : Board) (k : ℕ) → Starting root b k → position (seen root) k ≡ seen b
position_is root b k s =
    let trump = sym s.under.trump in
    let none : 0 ≡ b.played = sym (eqb-true _ _ s.start) in
    λ i. record { trump = trump i; hand = λ p c. hands p c i; leader = s.key.leads i; trick = take (none i) (numbers b.trick) }
  where
    hands : (p c : ℕ) → ((seen root).hand p c && bit (k % 2 ^ deck) c) ≡ (seen b).hand p c
    hands p c =
        ap (λ (x : Bool). (seen root).hand p c && x) (s.key.cards c)
        ∙ hand_is root (seen b) p c s.under

-- ---- the slots
pub true_read : (root b : Board) (keys worths : List ℕ) (i k : ℕ) → True (seen root) keys worths → i < length keys → get_or keys i 0 ≡ k →
    Starting root b k → get_or worths i 0 ≡ worth_of (seen b)
unfolding True
true_read root b keys worths i k h l e s = let is = h i l in let at = position_is root b k s in cc

pub true_store : (root b : Board) (keys worths : List ℕ) (i k w : ℕ) → True (seen root) keys worths → i < length keys → length keys ≡ length worths →
    Starting root b k → w ≡ worth_of (seen b) → True (seen root) (set keys i k) (set worths i w)
unfolding True
true_store root b keys worths i k w h l same s e j m =
    let at = position_is root b k s in
    elim (cases_eq j i) [
      | inl q ↦ let here = get_or-set_same worths i w 0 (omega arith) in let key = get_or-set_same keys i k 0 l in cc
      | inr q ↦
          let there = get_or-set_other worths i j w 0 q in
          let key = get_or-set_other keys i j k 0 q in
          let was = h j (omega (arith, length-set keys i k)) in
          cc
    ]

-- an empty slot is that of the table with no cards
empty_worth : (root : Table) (k : ℕ) → k ≡ 0 → worth_of (position root k) ≡ 0
empty_worth root k e = worth_none (position root k) (omega (arith, gone 0, gone 1, gone 2, gone 3))
  where
    gone : (p : ℕ) → count ((position root k).hand p) deck ≡ 0
    gone p = count_none ((position root k).hand p) deck (λ c. and_right _ _ (ap (λ (x : ℕ). bit (x % 2 ^ deck) c) e ∙ bit_zero c))

-- zeros are 0 at every place, and past the end
zeros_at : (n i : ℕ) → ◌≡◌ {A = ℕ} (get_or (replicate n 0) i 0) 0
zeros_at zero i = refl
zeros_at (suc n) zero = refl
zeros_at (suc n) (suc i) = zeros_at n i

pub true_empty : (root : Table) (keys worths : List ℕ) (n m : ℕ) → keys ≡ replicate n 0 → worths ≡ replicate m 0 → True root keys worths
unfolding True
true_empty root keys worths n m e f i l = rw (e, f) (zeros_at m i ∙ sym (empty_worth root (get_or (replicate n 0) i 0) (zeros_at n i)))
