-- The reply to a card of the side that claims, and the row of replies. Assumes nothing.
use Rattle.std.proofs.Common.{◌≡◌, ℕ, zero, suc, ◌+◌, ◌-◌, ◌%◌, ◌<◌, ◌≤◌, Bool, true, false, not, ◌&&◌, eqb, List, [], ◌∷◌, ◌++◌, map, length, Some, None, Option, sym, refl, ap, ◌∙◌, ap₂, inl, inr, add-one, arith, length-append}
use Rattle.std.proofs.lemmas.Bool.{cases_eq, cases_Bool}
use Rattle.std.proofs.lemmas.List.{map_push}
use Rattle.cards.specs.Table.{Table, pick, one, deck, most_tricks, count, InOrder}
use Rattle.cards.specs.Seen.{seen, tricks_left}
use Rattle.cards.specs.declared.board.Board.{Board}
use Rattle.tricks.specs.Rules.{turn, may, winner, after, gains}
use Rattle.tricks.specs.Statements.{left_after}
use Rattle.tricks.specs.Taken.{taker_of, taken_by}
use Rattle.tricks.specs.Moves.{After}
use Rattle.tricks.specs.declared.play.Played.{Played}
use Rattle.tricks.proofs.MayLaws.{may_parts}
use Rattle.tricks.proofs.CardsLeft.{own_cards}
use Rattle.claims.specs.Advice.{keeps, advice}
use Rattle.claims.specs.Failing.{failing, takes_by}
use Rattle.claims.specs.Judging.{own_turn, side_takes, failing_after_lead, next_failing, Answered, answered, replies_below}
use Rattle.claims.specs.Judged.{reply_told}
use Rattle.claims.specs.declared.replies.Reply.{Reply}
use Rattle.claims.proofs.LowestLaws.{lowest_is}
use Rattle.claims.proofs.CardLaws.{kept}

-- ---- what is left of a claim after a card
-- the tricks that a side takes by a card are known by who took the trick
ours_taken : (x : Bool) (p : ℕ) → side_takes true (pick x (Some p) None) ≡ one (x && eqb (p % 2) 0)
ours_taken true p = refl
ours_taken false p = refl

theirs_taken : (x : Bool) (p : ℕ) → side_takes false (pick x (Some p) None) ≡ one x - one (x && eqb (p % 2) 0)
theirs_taken true p = rest (eqb (p % 2) 0)
  where
    rest : (b : Bool) → one (not b) ≡ 1 - one b
    rest true = refl
    rest false = refl
theirs_taken false p = refl

side_takes_is : (side : Bool) (t : Table) (c : ℕ) → side_takes side (taken_by t c) ≡ takes_by side t c
unfolding gains
side_takes_is true t c = ours_taken (eqb (length t.trick) 3) (winner t (t.trick ++ (c ∷ [])))
side_takes_is false t c = theirs_taken (eqb (length t.trick) 3) (winner t (t.trick ++ (c ∷ [])))

-- what is asked of a claim at the board after a card
pub rest_is : (f : Bool → ℕ → ℕ → Table → Option ℕ) (b : Board) (x : ℕ) (p : Played) → After b x p → (side side' : Bool) (n k k' m : ℕ) →
    n ≡ tricks_left p.board → side' ≡ side → k' ≡ k - m → m ≡ side_takes side (taker_of p.taker) →
    f side' n k' (seen p.board) ≡ f side (left_after (seen b) (tricks_left b)) (k - takes_by side (seen b) x) (after (seen b) x)
rest_is f b x p done side side' n k k' m left same less took =
    let tricks : k' ≡ k - takes_by side (seen b) x = less ∙ ap (λ (y : ℕ). k - y) (took ∙ ap (side_takes side) done.taker ∙ side_takes_is side (seen b) x) in
    ap (λ (s : Bool). f s n k' (seen p.board)) same
    ∙ ap₂ (λ (i j : ℕ). f side i j (seen p.board)) (left ∙ done.left) tricks
    ∙ ap (f side (left_after (seen b) (tricks_left b)) (k - takes_by side (seen b) x)) done.table

-- ---- the other side's next turn
module _ (side : Bool) (n k : ℕ) (t : Table) where
  pub next_here : own_turn side t ≡ false → next_failing side n k t ≡ failing side n k t
  unfolding next_failing
  next_here e = ap (λ (b : Bool). pick b (failing_after_lead side n k t (advice t)) (failing side n k t)) e

  pub next_led : (o : Option ℕ) → own_turn side t ≡ true → o ≡ advice t → next_failing side n k t ≡ failing_after_lead side n k t o
  unfolding next_failing
  next_led o e f = ap (λ (b : Bool). pick b (failing_after_lead side n k t (advice t)) (failing side n k t)) e ∙ ap (failing_after_lead side n k t) (sym f)

-- the card advised may be played
pub advice_legal : (t : Table) (c : ℕ) → Some c ≡ advice t → may t c ≡ true
advice_legal t c e = (kept t c (lowest_is (keeps t) deck c (sym e)).passes).0

-- ---- the row of replies
-- there are no more cards in a part of a set, nor among the first of them
count_within : (h k : ℕ → Bool) (n : ℕ) → ((x : ℕ) → h x ≡ true → k x ≡ true) → count h n ≤ count k n
unfolding count
count_within h k zero f = omega arith
count_within h k (suc n) f = elim (cases_Bool (h n)) [
  | inl e ↦ rw (e, f n e) (omega (arith, count_within h k n f))
  | inr e ↦ rw e (omega (arith, count_within h k n f))
]

count_up : (h : ℕ → Bool) (i n : ℕ) → i ≤ n → count h i ≤ count h n
unfolding count
count_up h i zero l = let e : i ≡ 0 = omega arith in rw e (omega arith)
count_up h i (suc n) l = elim (cases_eq i (suc n)) [
  | inl e ↦ rw e (omega arith)
  | inr e ↦ omega (arith, count_up h i n (omega arith))
]

count_next : (h : ℕ → Bool) (i : ℕ) → count h (i + 1) ≡ one (h i) + count h i
unfolding count
count_next h i = ap (count h) (add-one i)

-- no more than eight cards may be played
may_few : (t : Table) (n : ℕ) → InOrder t n → count (may t) deck ≤ most_tricks
may_few t n o = omega (arith, o.few, own_cards t n o.sound, count_within (may t) (t.hand (turn t)) deck (λ x e. (may_parts t x e).owned))

-- the replies with those to one card more
replies_next : (side : Bool) (n k : ℕ) (t : Table) (i : ℕ) (m : Bool) → may t i ≡ m →
    replies_below side n k t (i + 1) ≡ pick m (replies_below side n k t i ++ (answered side n k t i ∷ [])) (replies_below side n k t i)
unfolding replies_below
replies_next side n k t i m e =
    ap (replies_below side n k t) (add-one i)
    ∙ ap (λ (b : Bool). pick b (replies_below side n k t i ++ (answered side n k t i ∷ [])) (replies_below side n k t i)) e

-- a row has the replies to the cards below i
pub record RowSoFar (t : Table) (side : Bool) (n k i : ℕ) (row : List Reply) : Type 0 where
  pub many : length row ≡ count (may t) i
  pub told : map reply_told row ≡ replies_below side n k t i

module _ (t : Table) (side : Bool) (n k : ℕ) where
  pub row_none : (row : List Reply) → row ≡ [] → RowSoFar t side n k 0 row
  unfolding count replies_below
  row_none row e = record { many = ap length e; told = ap (map reply_told) e }

  -- card x, the next
  module _ (i x : ℕ) (next : x ≡ i) (row : List Reply) (r : RowSoFar t side n k i row) where
    -- it may not be played
    pub row_skips : may t x ≡ false → RowSoFar t side n k (i + 1) row
    row_skips m =
        let illegal : may t i ≡ false = ap (may t) (sym next) ∙ m in
        record { many = omega (arith, r.many, count_next (may t) i, ap one illegal); told = r.told ∙ sym (replies_next side n k t i false illegal) }

    -- it may, and finds a place
    pub row_place : InOrder t n → x < deck → may t x ≡ true → length row < most_tricks
    row_place o l m = omega (arith, r.many, may_few t n o, count_next (may t) i, ap one (ap (may t) (sym next) ∙ m), count_up (may t) (i + 1) deck (omega arith))

    pub row_more : (y : Reply) (longer : List Reply) → longer ≡ row ++ y ∷ [] → may t x ≡ true → reply_told y ≡ answered side n k t x → RowSoFar t side n k (i + 1) longer
    row_more y longer more m e =
        let legal : may t i ≡ true = ap (may t) (sym next) ∙ m in
        record {
          many = omega (arith, r.many, count_next (may t) i, ap one legal, ap length more ∙ length-append row (y ∷ []));
          told = ap (map reply_told) more
              ∙ map_push reply_told row y
              ∙ ap₂ (λ (rs : List Answered) (a : Answered). rs ++ (a ∷ [])) r.told (e ∙ ap (answered side n k t) next)
              ∙ sym (replies_next side n k t i true legal);
        }
