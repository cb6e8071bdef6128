-- The window so far, as the search goes through the cards, and the tables that it goes on to. Assumes nothing.
use Rattle.std.proofs.Common.{◌≡◌, ℕ, ◌+◌, ◌-◌, ◌<◌, ◌≤◌, min, Bool, true, false, eqb, [], ◌∷◌, ◌++◌, length, Some, None, Option, sym, refl, ap, ◌∙◌, ap₂, arith}
use Rattle.cards.specs.Table.{Table, pick, deck, Sound, cards_left}
use Rattle.cards.specs.Seen.{seen, tricks_left}
use Rattle.cards.specs.declared.board.Board.{Board}
use Rattle.cards.proofs.Order.{in_order}
use Rattle.tricks.specs.Rules.{our_turn, winner, after}
use Rattle.tricks.specs.Taken.{taker_of, gain_of}
use Rattle.tricks.specs.Moves.{After}
use Rattle.tricks.specs.declared.play.Played.{Played}
use Rattle.worth.specs.Value.{best_below, worth_of}
use Rattle.worth.specs.Search.{Enough, left_with, clamp, exact}
use Rattle.tricks.proofs.CardsLeft.{cards_are, one_fewer}
use Rattle.worth.proofs.BestLaws.{by_card, best_none, best_takes, best_skips}
use Rattle.worth.proofs.ValueLaws.{worth_low, worth_step}
use Rattle.worth.proofs.WindowLaws.{lowered_least, clamp_one, clamp_all, clamp_within, clamp_exact, clamp_worst, narrows, found_is}
use Rattle.worth.specs.declared.window.Window.{Window}

-- a card takes at most one trick off those left, and brings at most one
pub next_left : (taker : Option ℕ) (n : ℕ) → n ≤ left_with taker n + 1
next_left None n = omega arith
next_left (Some p) n = omega arith

gain_small : (taker : Option ℕ) → gain_of taker ≤ 1
gain_small None = omega arith
gain_small (Some p) = grind arith

-- a worth that was found within all of the tricks left, or that is exact, is the worth
worth_within : (b : Board) (left : ℕ) → left ≡ tricks_left b → worth_of (seen b) ≤ left
worth_within b left e = omega (arith, worth_low (seen b) (tricks_left b) (in_order b).sound)

pub whole_worth : (b : Board) (left : ℕ) → left ≡ tricks_left b → clamp 0 left (worth_of (seen b)) ≡ worth_of (seen b)
whole_worth b left e = clamp_all left (worth_of (seen b)) (worth_within b left e)

pub exact_worth : (b : Board) (w : Window) (left v : ℕ) → left ≡ tricks_left b → v ≡ clamp w.low w.high (worth_of (seen b)) → exact w.low w.high left v ≡ true → v ≡ worth_of (seen b)
exact_worth b w left v e = clamp_exact w.low w.high left v (worth_of (seen b)) (worth_within b left e)

-- ---- what comes of a card
module _ (b : Board) (c : ℕ) (p : Played) (played : After b c p) where
  pub after_falls : (k : ℕ) → cards_left (seen b) ≡ k → cards_left (seen p.board) < k
  after_falls k f =
      let e : cards_left (seen p.board) ≡ cards_left (after (seen b) c) = ap cards_left played.table in
      omega (arith, one_fewer (seen b) c played.legal)

  pub after_left : (left r : ℕ) → left ≡ tricks_left b → r ≡ left_with (taker_of p.taker) left → r ≡ tricks_left p.board
  after_left left r e f =
      f ∙ ap₂ left_with played.taker e ∙ by (eqb (length (seen b).trick) 3) ∙ sym played.left
    where
      by : (x : Bool) → left_with (pick x (Some (winner (seen b) ((seen b).trick ++ (c ∷ [])))) None) (tricks_left b) ≡ pick x (tricks_left b - 1) (tricks_left b)
      by true = refl
      by false = refl

-- ---- the window so far
-- of the cards of a set those from i on were looked at, of table t with n tricks left:
-- its worth within window w is the best of the cards below i within window v
pub record SoFar (t : Table) (n : ℕ) (w : Window) (set : ℕ → Bool) (i : ℕ) (v : Window) : Type 0 where
  pub most : v.high ≤ n
  pub worth : clamp w.low w.high (worth_of t) ≡ clamp v.low v.high (best_below set worth_of n t i)

-- with no card looked at
pub so_far_none : (b : Board) (n : ℕ) (w : Window) (set : ℕ → Bool) (i : ℕ) → n ≡ tricks_left b → Enough (seen b) (tricks_left b) set → i ≡ deck →
    w.low < w.high → w.high ≤ n → SoFar (seen b) n w set i w
so_far_none b n w set i left enough e some most = record {
  most = most;
  worth =
      (let step = worth_step (seen b) n sound (omega (arith, cards_are (seen b) n sound, sound.short)) in
      let best = enough.best in
      cc);
}
  where
    sound : Sound (seen b) n
    sound = rw left (in_order b).sound

module _ (b : Board) (left : ℕ) (w : Window) (set : ℕ → Bool) where
  abbrev t : Table
  t = seen b

  -- the best of the cards below i
  abbrev best : ℕ → ℕ
  best i = best_below set worth_of left t i

  -- a card that is not looked at
  pub so_far_skips : (i j : ℕ) (v : Window) → i + 1 ≡ j → set i ≡ false → SoFar t left w set j v → SoFar t left w set i v
  so_far_skips i j v next e s = record {
    most = s.most;
    worth = (let skips = best_skips set worth_of left t i e in cc);
  }

  -- a card of which the nearest to what it brings was found, in the window `next` for what follows it
  pub so_far_takes : (i j : ℕ) (v next v' : Window) (p : Played) (ours : Bool) (gain rest found : ℕ) → i + 1 ≡ j → (set i ≡ true) × After b i p → ours ≡ our_turn t →
      left ≡ tricks_left b → rest ≡ left_with (taker_of p.taker) left → gain ≡ gain_of (taker_of p.taker) → v.low < v.high →
      next.low ≡ v.low - gain → next.high ≡ min (v.high - gain) rest → found ≡ clamp next.low next.high (worth_of (seen p.board)) →
      v'.low ≡ pick ours (clamp v.low v.high (gain + found)) v.low → v'.high ≡ pick ours v.high (clamp v.low v.high (gain + found)) →
      SoFar t left w set j v → SoFar t left w set i v'
  so_far_takes i j v next v' p ours gain rest found step (y, played) o e r g some l h is low high s = record {
    most = omega (arith, lowered_least ours v.low v.high (gain + found) v.order, s.most);
    worth =
        (let takes = best_takes set worth_of left t i y in
        let narrow = narrows (our_turn t) v.low v.high (best i) (by_card worth_of t i) in
        let low' : v'.low ≡ pick (our_turn t) (clamp v.low v.high (by_card worth_of t i)) v.low = low ∙ ap₂ (λ (x : Bool) (k : ℕ). pick x k v.low) o near in
        let high' : v'.high ≡ pick (our_turn t) v.high (clamp v.low v.high (by_card worth_of t i)) = high ∙ ap₂ (λ (x : Bool) (k : ℕ). pick x v.high k) o near in
        cc);
  }
    where
      brings : gain + found ≡ clamp v.low v.high (by_card worth_of t i)
      brings =
          ap (λ (x : ℕ). gain + x) (is ∙ ap₂ (λ (x k : ℕ). clamp x k (worth_of (seen p.board))) l h)
          ∙ found_is v.low v.high gain left rest (worth_of (seen p.board)) some s.most (omega (arith, next_left (taker_of p.taker) left)) (omega (arith, gain_small (taker_of p.taker)))
          (worth_within p.board rest (after_left b i p played left rest e r))
          ∙ ap (clamp v.low v.high) (ap₂ (λ (x k : ℕ). x + k) (g ∙ played.gain) (ap worth_of played.table))

      near : clamp v.low v.high (gain + found) ≡ clamp v.low v.high (by_card worth_of t i)
      near = ap (clamp v.low v.high) brings ∙ clamp_within v.low v.high (by_card worth_of t i) v.order

  -- once the window is closed, what is left of the cards does not matter
  pub so_far_closed : (i : ℕ) (v : Window) (ours : Bool) → v.low ≡ v.high → SoFar t left w set i v → pick ours v.low v.high ≡ clamp w.low w.high (worth_of t)
  so_far_closed i v ours e s = either ours ∙ clamp_one v.low v.high (best i) e ∙ sym s.worth
    where
      either : (x : Bool) → pick x v.low v.high ≡ v.low
      either true = refl
      either false = sym e

  -- nor is anything left of them at the end
  pub so_far_all : (i : ℕ) (v : Window) (ours : Bool) → i ≡ 0 → ours ≡ our_turn t → SoFar t left w set i v → pick ours v.low v.high ≡ clamp w.low w.high (worth_of t)
  so_far_all i v ours e o s =
      let worst-is = clamp_worst ours v.low v.high left v.order s.most in
      let none = best_none set worth_of left t in
      cc
