-- A row that is played card by card. Assumes nothing.
use Rattle.std.proofs.Common.{◌≡◌, ℕ, suc, ◌+◌, ◌<◌, ◌≤◌, Bool, true, false, List, [], ◌∷◌, ◌++◌, length, get_or, drop, sym, refl, ap, ◌∙◌, ap₂, add-one, arith, length-append}
use Rattle.std.proofs.lemmas.List.{append-nil, append_assoc, at_drop_more, at_drop_all, map_push}
use Rattle.cards.specs.Table.{Table, pick, cards_left}
use Rattle.tricks.specs.Rules.{may, after}
use Rattle.referee.specs.Plays.{Noted, noted, note_of, notes_of}
use Rattle.referee.specs.Row.{why, Outcome, played, refuses, noting, row}
use Rattle.referee.specs.declared.row.Play.{Play}
use Rattle.tricks.proofs.CardsLeft.{one_fewer}

-- the same with plays before
abbrev pub noting_all : List Noted → Outcome → Outcome
noting_all ns (played ms t) = played (ns ++ ms) t
noting_all ns (refuses n p) = refuses n p

noting_none : (o : Outcome) → noting_all [] o ≡ o
noting_none (played ns t) = refl
noting_none (refuses n p) = refl

noting_more : (ns : List Noted) (n : Noted) (o : Outcome) → noting_all ns (noting n o) ≡ noting_all (ns ++ (n ∷ [])) o
noting_more ns n (played ms t) = ap (λ (xs : List Noted). played xs t) (sym (append_assoc ns (n ∷ []) ms))
noting_more ns n (refuses k p) = refl

-- the next card of a row, that may be played or not
pub row_goes : (t : Table) (i c : ℕ) (cs : List ℕ) → may t c ≡ true → row t i (c ∷ cs) ≡ noting (noted t c) (row (after t c) (suc i) cs)
unfolding row
row_goes t i c cs m = ap (λ (b : Bool). pick b (noting (noted t c) (row (after t c) (suc i) cs)) (refuses (why t c) i)) m

pub row_stops : (t : Table) (i c : ℕ) (cs : List ℕ) → may t c ≡ false → row t i (c ∷ cs) ≡ refuses (why t c) i
unfolding row
row_stops t i c cs m = ap (λ (b : Bool). pick b (noting (noted t c) (row (after t c) (suc i) cs)) (refuses (why t c) i)) m

-- the first i cards of a row at table t lead to table u, by these plays
pub record Going (t : Table) (cs : List ℕ) (i : ℕ) (u : Table) (plays : List Play) : Type 0 where
  pub left : i + cards_left u ≡ cards_left t
  pub many : length plays ≡ i
  pub rest : row t 0 cs ≡ noting_all (notes_of plays) (row u i (drop i cs))

pub going_none : (t : Table) (cs : List ℕ) (plays : List Play) → plays ≡ [] → Going t cs 0 t plays
going_none t cs plays e = record {
  left = omega arith;
  many = ap length e;
  rest = sym (ap (λ (xs : List Play). noting_all (notes_of xs) (row t 0 cs)) e ∙ noting_none (row t 0 cs));
}

module _ (t : Table) (cs : List ℕ) (i : ℕ) (u : Table) (plays : List Play) (g : Going t cs i u plays) where
  -- a card more finds a place
  pub place_left : (c : ℕ) → cards_left t ≤ 32 → may u c ≡ true → length plays < 32
  place_left c l m = omega (arith, g.left, g.many, one_fewer u c m)

  pub going_more : (c : ℕ) (v : Table) (p : Play) (longer : List Play) → i < length cs → c ≡ get_or cs i 0 → may u c ≡ true → v ≡ after u c → note_of p ≡ noted u c →
      longer ≡ plays ++ (p ∷ []) → Going t cs (i + 1) v longer
  going_more c v p longer l e m s n more = record {
    left = (let w : cards_left v ≡ cards_left (after u c) = ap cards_left s in omega (arith, g.left, one_fewer u c m));
    many = ap length more ∙ length-append plays (p ∷ []) ∙ ap (λ (k : ℕ). k + 1) g.many;
    rest = g.rest
        ∙ ap (noting_all (notes_of plays))
        (at_drop_more (row u i) cs i 0 l ∙ ap (λ (x : ℕ). row u i (x ∷ drop (i + 1) cs)) (sym e) ∙ row_goes u i c (drop (i + 1) cs) m)
        ∙ noting_more (notes_of plays) (noted u c) (row (after u c) (suc i) (drop (i + 1) cs))
        ∙ ap₂ noting_all
        (ap (λ (x : Noted). notes_of plays ++ (x ∷ [])) (sym n) ∙ sym (map_push note_of plays p) ∙ ap notes_of (sym more))
        (ap₂ (λ (w : Table) (j : ℕ). row w j (drop (i + 1) cs)) (sym s) (sym (add-one i)));
  }

  pub going_bad : (c : ℕ) → i < length cs → c ≡ get_or cs i 0 → may u c ≡ false → refuses (why u c) i ≡ row t 0 cs
  going_bad c l e m =
      sym (g.rest
      ∙ ap (noting_all (notes_of plays))
      (at_drop_more (row u i) cs i 0 l ∙ ap (λ (x : ℕ). row u i (x ∷ drop (i + 1) cs)) (sym e) ∙ row_stops u i c (drop (i + 1) cs) m))

  pub going_all : length cs ≤ i → played (notes_of plays) u ≡ row t 0 cs
  unfolding row
  going_all l =
      sym (g.rest
      ∙ ap (noting_all (notes_of plays)) (at_drop_all (row u i) cs i l)
      ∙ ap (λ (xs : List Noted). played xs u) (append-nil (notes_of plays)))
