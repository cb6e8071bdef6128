-- The table seen by the others: what one side takes the other is held to. Assumes nothing.
use Rattle.std.proofs.Common.{◌≡◌, ℕ, ◌+◌, ◌-◌, ◌%◌, ◌<◌, ◌≤◌, Bool, true, false, not, eqb, ltb, List, [], ◌∷◌, ◌++◌, length, sym, refl, ap, ◌∙◌, subst, arith}
use mathlib.Core.Path.{fun_ext}
use native.Mathlib.Nat.{sub-zero}
use Rattle.cards.specs.Table.{Table, one, deck, count, Sound}
use Rattle.tricks.specs.Rules.{turn, our_turn, may, winner, without, after, gains}
use Rattle.tricks.specs.Plays.{Takes, none, we_play, they_play, Held, out_of_cards, they_do, we_do}
use Rattle.tricks.specs.Statements.{left_after}
use Rattle.tricks.proofs.TrickLaws.{winner_low}
use Rattle.tricks.proofs.Stays.{keeps_sound}
use Rattle.worth.specs.Statements.{seen_by_others, BothSides, OtherSide}
use Rattle.tricks.proofs.CardsLeft.{some_trick, no_trick}
use Rattle.worth.proofs.PlayLaws.{takes_fewer, held_more, worth_once, at_most}
use Rattle.worth.proofs.ValueLaws.{value_is_worth, worth_low}

-- the same table with other hands and another leader
abbrev seated : Table → (ℕ → ℕ → Bool) → ℕ → Table
seated t h l = record { trump = t.trump; hand = h; leader = l; trick = t.trick }

-- these hands and this leader are those of the table, each one seat on
record Turned (t : Table) (h : ℕ → ℕ → Bool) (l : ℕ) : Type 0 where
  low : l < 4
  leads : (l + 1) % 4 ≡ t.leader
  hands : (p x : ℕ) → p < 4 → h p x ≡ t.hand ((p + 1) % 4) x

module _ (t : Table) (h : ℕ → ℕ → Bool) (l : ℕ) (r : Turned t h l) where
  turned_turn : (turn (seated t h l) + 1) % 4 ≡ turn t
  turned_turn = let e = r.leads in omega arith

  turned_side : our_turn (seated t h l) ≡ not (our_turn t)
  turned_side = let e = turned_turn in grind arith

  turned_us : our_turn t ≡ true → our_turn (seated t h l) ≡ false
  turned_us o = rw (turned_side, o)

  turned_them : our_turn t ≡ false → our_turn (seated t h l) ≡ true
  turned_them o = rw (turned_side, o)

  turned_hand : h (turn (seated t h l)) ≡ t.hand (turn t)
  turned_hand = fun_ext (λ x. r.hands (turn (seated t h l)) x (omega arith) ∙ ap (λ p. t.hand p x) turned_turn)

  turned_may : (c : ℕ) → may (seated t h l) c ≡ may t c
  turned_may c = rw turned_hand

  turned_winner : (xs : List ℕ) → (winner (seated t h l) xs + 1) % 4 ≡ winner t xs
  unfolding winner
  turned_winner [] = r.leads
  turned_winner (x ∷ xs) = let e = r.leads in omega arith

  -- a trick that a card ends is gained by one of the two sides
  turned_gains : (c : ℕ) → gains t c + gains (seated t h l) c ≡ one (eqb (length t.trick) 3)
  unfolding gains
  turned_gains c = let e = turned_winner (t.trick ++ (c ∷ [])) in grind arith

  turned_left : (n c : ℕ) → 0 < n → (gains t c + gains (seated t h l) c) + left_after t n ≡ n
  turned_left n c p = let g = turned_gains c in grind arith

  turned_after : (c : ℕ) → Turned (after t c) (without (seated t h l) c) (after (seated t h l) c).leader
  unfolding after
  turned_after c = record {
    low = (let a = winner_low (seated t h l) (t.trick ++ (c ∷ [])) r.low in let b = r.low in grind arith);
    leads = (let a = turned_winner (t.trick ++ (c ∷ [])) in let b = r.leads in grind arith);
    hands = λ p x k. rw (r.hands p x k, same p k);
  }
    where
      same : (p : ℕ) → p < 4 → eqb p (turn (seated t h l)) ≡ eqb ((p + 1) % 4) (turn t)
      same p k = let e = turned_turn in grind arith

-- what is kept from card to card: both tables are sound, and one is the other turned
record Facing (t : Table) (n : ℕ) (h : ℕ → ℕ → Bool) (l : ℕ) : Type 0 where
  ours : Sound t n
  others : Sound (seated t h l) n
  turned : Turned t h l

-- both tables after a card, and what it gives to the two sides
module _ (t : Table) (n c : ℕ) (h : ℕ → ℕ → Bool) (l : ℕ) (f : Facing t n h l) (m : may t c ≡ true) where
  may_there : may (seated t h l) c ≡ true
  may_there = turned_may t h l f.turned c ∙ m

  next : Facing (after t c) (left_after t n) (without (seated t h l) c) (after (seated t h l) c).leader
  unfolding after
  next = record {
    ours = keeps_sound t n c f.ours m;
    others = keeps_sound (seated t h l) n c f.others may_there;
    turned = turned_after t h l f.turned c;
  }

  shared : (gains t c + gains (seated t h l) c) + left_after t n ≡ n
  shared = turned_left t h l f.turned n c (some_trick t n c f.ours m)

  held_by : (k : ℕ) → Takes (k - gains t c) (after t c) → Held (left_after t n - (k - gains t c)) (seated (after t c) (without (seated t h l) c) (after (seated t h l) c).leader) →
      (gains (seated t h l) c ≤ n - k) × Held (n - k - gains (seated t h l) c) (after (seated t h l) c)
  unfolding after
  held_by k a r =
      let e = shared in
      let q = at_most (after t c) (left_after t n) _ next.ours a in
      (omega arith, held_more (n - k - gains (seated t h l) c) (omega arith) r)

  takes_by : (k : ℕ) → gains t c ≤ k → Takes (left_after t n - (k - gains t c)) (seated (after t c) (without (seated t h l) c) (after (seated t h l) c).leader) →
      Takes (n - k - gains (seated t h l) c) (after (seated t h l) c)
  unfolding after
  takes_by k g r = let e = shared in takes_fewer (n - k - gains (seated t h l) c) (omega arith) r

-- no more is taken than there are tricks
held_top : (t : Table) (n : ℕ) → Sound t n → Held n t
held_top t n s = held_more n (worth_low t n s) (value_is_worth t n s).1

-- what our side takes the others are held off, and what it is held to leaves the rest to them
held_of_takes : {k : ℕ} {t : Table} → Takes k t → (n : ℕ) (h : ℕ → ℕ → Bool) (l : ℕ) → Facing t n h l → Held (n - k) (seated t h l)
held_of_takes (none {t = t}) n h l f = rw sub-zero (held_top (seated t h l) n f.others)
held_of_takes (we_play {n = k} {t = t} c o m a) n h l f =
    let (g, r) = held_by t n c h l f m k a (held_of_takes a (left_after t n) _ _ (next t n c h l f m)) in
    they_do c (turned_us t h l f.turned o) (may_there t n c h l f m) g r
held_of_takes (they_play {n = k} {t = t} c o m a) n h l f =
    let here : (d : ℕ) → may (seated t h l) d ≡ true → may t d ≡ true = λ d x. sym (turned_may t h l f.turned d) ∙ x in
    let both : (d : ℕ) → may (seated t h l) d ≡ true → (gains (seated t h l) d ≤ n - k) × Held (n - k - gains (seated t h l) d) (after (seated t h l) d) =
    λ d x. held_by t n d h l f (here d x) k (a d (here d x)) (held_of_takes (a d (here d x)) (left_after t n) _ _ (next t n d h l f (here d x))) in
    we_do c (turned_them t h l f.turned o) (may_there t n c h l f m) (λ d x. (both d x).0) (λ d x. (both d x).1)

takes_of_held : {k : ℕ} {t : Table} → Held k t → (n : ℕ) (h : ℕ → ℕ → Bool) (l : ℕ) → Facing t n h l → Takes (n - k) (seated t h l)
takes_of_held (out_of_cards {n = k} {t = t} e) n h l f = let z : n - k ≡ 0 = omega (arith, no_trick t n f.ours e) in rw z none
takes_of_held (they_do {n = k} {t = t} c o m g a) n h l f =
    we_play c (turned_them t h l f.turned o) (may_there t n c h l f m)
    (takes_by t n c h l f m k g (takes_of_held a (left_after t n) _ _ (next t n c h l f m)))
takes_of_held (we_do {n = k} {t = t} c o m g a) n h l f =
    let here : (d : ℕ) → may (seated t h l) d ≡ true → may t d ≡ true = λ d x. sym (turned_may t h l f.turned d) ∙ x in
    they_play c (turned_us t h l f.turned o) (may_there t n c h l f m)
    (λ d x. takes_by t n d h l f (here d x) k (g d (here d x)) (takes_of_held (a d (here d x)) (left_after t n) _ _ (next t n d h l f (here d x))))

-- the table seen by the others is sound, and turned
pub seen_sound : (t : Table) (n : ℕ) → Sound t n → Sound (seen_by_others t) n
seen_sound t n s = record {
  leads = omega arith;
  short = s.short;
  once = λ p q c lp lq e f. (let x = s.once ((p + 1) % 4) ((q + 1) % 4) c (omega arith) (omega arith) e f in omega arith);
  cards = λ c p e. s.cards c ((p + 1) % 4) e;
  played = λ i d l p k. s.played i d l ((p + 1) % 4) (omega arith);
  have = λ i k.
      (let e : (((t.leader + 3) % 4 + i) % 4 + 1) % 4 ≡ (t.leader + i) % 4 = omega arith in
      subst (λ (p : ℕ). count (t.hand p) deck + one (ltb i (length t.trick)) ≡ n) (sym e) (s.have i k));
}

facing : (t : Table) (n : ℕ) → Sound t n → Facing t n (seen_by_others t).hand (seen_by_others t).leader
facing t n s = record {
  ours = s;
  others = seen_sound t n s;
  turned = (let h = s.leads in record { low = omega arith; leads = omega arith; hands = λ p x k. refl });
}

pub other_side : OtherSide
other_side t n v s (a, b) = (takes_of_held b n _ _ (facing t n s), held_of_takes a n _ _ (facing t n s))

pub both_sides : BothSides
both_sides t n v w s x y = omega (arith, worth_once (seen_by_others t) n w (n - v) (seen_sound t n s) y (other_side t n v s x), at_most t n v s x.0)
