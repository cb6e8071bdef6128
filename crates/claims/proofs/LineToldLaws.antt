-- The line of play that the referee was given, as it is told. Assumes nothing.
use Rattle.std.proofs.Common.{◌≡◌, ℕ, ◌<◌, ◌≤◌, Bool, true, List, [], ◌∷◌, map, length, take, Ok, Err, sym, refl, ap, ◌∙◌, subst, arith}
use Rattle.std.proofs.lemmas.List.{ext_get_or, length-map, get_or-map}
use Rattle.cards.specs.Table.{Table, cards_left, Sound}
use Rattle.cards.specs.Seen.{seen}
use Rattle.cards.specs.declared.board.Board.{Board}
use Rattle.cards.specs.declared.refusal.Refusal.{Refusal}
use Rattle.referee.specs.Plays.{Noted, noted, notes_of}
use Rattle.referee.specs.Refereed.{told, Refereed}
use Rattle.referee.specs.Right.{table_at, PlaysOf, Right}
use Rattle.referee.specs.declared.row.Play.{Play}
use Rattle.worth.specs.Positions.{True}
use Rattle.worth.specs.Answer.{usable}
use Rattle.claims.specs.PlayOn.{Runs}
use Rattle.claims.specs.PlayedOn.{cards_in, WellPlayed, LineTold}
use Rattle.claims.proofs.CourseLaws.{all_fit, course_never_below, course_gets}

-- the cards of plays are those of their notes
cards_noted : (plays : List Play) → cards_in plays ≡ map (λ n. n.card) (notes_of plays)
cards_noted [] = refl
cards_noted (p ∷ ps) = ap (λ (cs : List ℕ). p.card.number ∷ cs) (cards_noted ps)

-- the plays of a row have its cards
noted_cards : (t : Table) (ds : List ℕ) (ns : List Noted) → PlaysOf t ds ns → map (λ n. n.card) ns ≡ ds
noted_cards t ds ns p =
    ext_get_or 0 (map (λ n. n.card) ns) ds (length-map ns (λ n. n.card) ∙ p.many)
    (λ i l.
    let k : i < length ns = omega (arith, length-map ns (λ n. n.card)) in
    get_or-map (λ n. n.card) ns i (noted t 0) 0 k ∙ ap (λ n. n.card) (p.each i (omega (arith, p.many)) (noted t 0)))

module _ (side : Bool) (t : Table) (n : ℕ) (s : Sound t n) (cs ds : List ℕ) (runs : Runs side t cs ds) (plays plays' : List Play) (room : cards_left t ≤ length plays) where
  -- the referee takes what comes about
  pub never_refused : (e : Refusal) → Right t (length plays) ds (told (length ds) plays' (Err e)) → ⊥
  never_refused e right =
      let (ns, is, _) = right.takes room (all_fit side runs) in
      let z : ◌≡◌ {A = ℕ} 0 1 = cc in
      omega arith

  -- and its plays are written
  module _ (b : Board) (right : Right t (length plays) ds (told (length ds) plays' (Ok b))) where
    written : PlaysOf t ds (notes_of (take (length ds) plays')) × (seen b ≡ table_at t ds (length ds))
    written = let (_, _, reached, p) = right.taken (notes_of (take (length ds) plays')) (seen b) refl in (p, reached)

    cards_written : cards_in (take (length ds) plays') ≡ ds
    cards_written = cards_noted (take (length ds) plays') ∙ noted_cards t ds (notes_of (take (length ds) plays')) written.0

    well_played : WellPlayed side t cs ds (notes_of (take (length ds) plays')) (seen b)
    well_played = record {
      runs = runs;
      plays = written.0;
      reached = written.1;
      never_below = course_never_below side t n s cs ds runs;
      gets = λ over. course_gets side t n s cs ds runs (ap cards_left (sym written.1) ∙ over);
    }

    pub line_told : (keys worths keys' worths' : List ℕ) → usable keys worths ≡ true → True t keys' worths' → Refereed t ds plays plays' (Ok b) → (count : ℕ) → length ds ≡ count → count ≤ cards_left t →
        LineTold side t cs plays plays' keys worths keys' worths' (record { board = b; plays = count })
    line_told keys worths keys' worths' lent kept value count many few =
        subst (λ (k : ℕ). LineTold side t cs plays plays' keys worths keys' worths' (record { board = b; plays = k })) many
        (record {
          roomy = room;
          lent = lent;
          few = omega arith;
          line = subst (λ (xs : List ℕ). WellPlayed side t cs xs (notes_of (take (length ds) plays')) (seen b)) (sym cards_written) well_played;
          rest = value.rest;
          kept = kept;
        })
