-- The ends of a row of cards are as good as each other. Assumes nothing.
use Rattle.std.proofs.Common.{◌≡◌, ℕ, zero, suc, ◌+◌, ◌-◌, ◌<◌, ◌≤◌, Bool, true, false, List, [], ◌∷◌, refl, ◌∙◌, subst, inl, inr, arith}
use Rattle.std.proofs.lemmas.Bool.{cases_lt}
use Rattle.cards.specs.Table.{Table, deck, suit, Sound}
use Rattle.tricks.specs.Rules.{turn, may, follows}
use Rattle.tricks.proofs.MayLaws.{may_parts, may_from}
use Rattle.equals.specs.Equals.{in_play, AsGoodAs, RowAsGood}
use Rattle.equals.proofs.Swap.{as_good, no_between_from}

as_good_step : (t : Table) (n c d : ℕ) → Sound t n → c < d → suit c ≡ suit d → may t c ≡ true → may t d ≡ true → ((x : ℕ) → c < x → x < d → in_play t x ≡ false) → AsGoodAs t c d
as_good_step t n c d s l e mc md f =
    let gap = no_between_from t c d f in
    record { gain = (as_good t n c d 0 s l e mc md gap).2; there = λ v. (as_good t n c d v s l e mc md gap).0; back = λ v. (as_good t n c d v s l e mc md gap).1 }

pub as_good_trans : (t : Table) (a b c : ℕ) → AsGoodAs t a b → AsGoodAs t b c → AsGoodAs t a c
as_good_trans t a b c x y = record { gain = x.gain ∙ y.gain; there = λ v w. y.there v (x.there v w); back = λ v w. x.back v (y.back v w) }

pub as_good_refl : (t : Table) (a : ℕ) → AsGoodAs t a a
as_good_refl t a = record { gain = refl; there = λ v w. w; back = λ v w. w }

-- a card of the same suit may be played too
pub may_suit : (t : Table) (c x : ℕ) → may t c ≡ true → suit c ≡ suit x → x < deck → t.hand (turn t) x ≡ true → may t x ≡ true
unfolding follows
may_suit t c x m e l h = may_from t x (record { card = l; owned = h; goes = go t.trick (may_parts t c m).goes })
  where
    go : (xs : List ℕ) → follows (t.hand (turn t)) xs c ≡ true → follows (t.hand (turn t)) xs x ≡ true
    go [] k = refl
    go (y ∷ ys) k = rw (← e) k

module _ (t : Table) (n c d : ℕ) (s : Sound t n) (suits : suit c ≡ suit d) (mc : may t c ≡ true) (md : may t d ≡ true)
    (row : (x : ℕ) → c < x → x < d → in_play t x ≡ true → t.hand (turn t) x ≡ true) where
  -- the last card of the row below y
  record Last (y : ℕ) : Type 0 where
    pub card : ℕ
    pub above : c ≤ card
    pub under : card < y
    pub legal : may t card ≡ true
    pub good : AsGoodAs t c card
    pub gap : (x : ℕ) → card < x → x < y → in_play t x ≡ false

  last : (k : ℕ) → c + suc k ≤ d → Last (c + suc k)
  last zero l = record { card = c; above = omega arith; under = omega arith; legal = mc; good = as_good_refl t c; gap = λ x a b. absurd (omega arith) }
  last (suc k) l = go (last k (omega arith)) (in_play t (c + suc k)) refl
    where
      go : Last (c + suc k) → (b : Bool) → in_play t (c + suc k) ≡ b → Last (c + suc (suc k))
      go z false e = record {
        card = z.card;
        above = z.above;
        under = (let u = z.under in omega arith);
        legal = z.legal;
        good = z.good;
        gap = λ x a b. elim (cases_lt x (c + suc k)) [ inl q ↦ z.gap x a q | inr q ↦ let f : x ≡ c + suc k = omega arith in rw f e ];
      }
      go z true e =
          let y : ℕ = c + suc k in
          let u = z.under in
          let a = z.above in
          let my : may t y ≡ true = may_suit t c y mc (omega arith) (let h = (may_parts t d md).card in omega arith) (row y (omega arith) (omega arith) e) in
          record {
            card = y;
            above = omega arith;
            under = omega arith;
            legal = my;
            good = as_good_trans t c z.card y z.good (as_good_step t n z.card y s z.under (omega arith) z.legal my z.gap);
            gap = λ x a b. absurd (omega arith);
          }

  row_ends : c < d → AsGoodAs t c d
  row_ends l =
      let e : c + suc (d - c - 1) ≡ d = omega arith in
      let z = subst Last e (last (d - c - 1) (omega arith)) in
      let u = z.under in
      let a = z.above in
      as_good_trans t c z.card d z.good (as_good_step t n z.card d s z.under (omega arith) z.legal md z.gap)

pub row_as_good : RowAsGood
row_as_good t n c d s l suits mc md row = row_ends t n c d s suits mc md row l
