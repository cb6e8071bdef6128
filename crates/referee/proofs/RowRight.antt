-- The definition takes a row exactly if each card may be played where it stands, and else refuses at the first that may not. Assumes nothing.
use Rattle.std.proofs.Common.{◌≡◌, ℕ, zero, suc, ◌+◌, ◌<◌, ◌≤◌, Bool, true, false, ◌⊎◌, List, [], ◌∷◌, length, get_or, sym, refl, ap, ◌∙◌, subst, ap₂, inl, inr, arith}
use Rattle.std.proofs.lemmas.Bool.{cases_Bool, cases_lt, cases_order, both_ways, lt-ltb, le-ltb}
use Rattle.cards.specs.Table.{Table, pick, InOrder, cards_left}
use Rattle.tricks.specs.Rules.{may, after}
use Rattle.tricks.specs.Statements.{left_after}
use Rattle.tricks.proofs.Stays.{stays_sound}
use Rattle.referee.specs.Plays.{Noted, noted}
use Rattle.referee.specs.Row.{why, Outcome, played, refuses, noting, row, refereed}
use Rattle.referee.specs.Right.{card_at, table_at, Fits, AllFit, Stops, Why, PlaysOf, Right}
use Rattle.referee.proofs.LogLaws.{row_goes, row_stops}
use Rattle.referee.proofs.WhyLaws.{why_right, why_one, why_of_card}

-- the tables of a row are those of its rest, after its first card
pub table_later : (t : Table) (c : ℕ) (cs : List ℕ) (i : ℕ) → table_at (after t c) cs i ≡ table_at t (c ∷ cs) (suc i)
unfolding table_at
table_later t c cs zero = refl
table_later t c cs (suc i) = ap (λ (u : Table). after u (card_at cs i)) (table_later t c cs i)

pub table_first : (t : Table) (cs : List ℕ) → table_at t cs 0 ≡ t
unfolding table_at
table_first t cs = refl

-- each card of a row may be played, and these are its plays
record Runs (t : Table) (cs : List ℕ) (o : Outcome) : Type 0 where
  notes : List Noted
  is : o ≡ played notes (table_at t cs (length cs))
  fit : AllFit t cs
  plays : PlaysOf t cs notes

-- a card of a row, whose first stands at place i, may not be played
record Halts (t : Table) (cs : List ℕ) (i : ℕ) (o : Outcome) : Type 0 where
  number : ℕ
  place : ℕ
  is : o ≡ refuses number (i + place)
  stops : Stops t cs place
  why : Why (table_at t cs place) (card_at cs place) number

module _ (t : Table) (c : ℕ) (cs : List ℕ) (i : ℕ) (m : may t c ≡ true) where
  -- what holds of the table and the card at a place of the rest holds at the next place of the row
  later : (P : Table → Type 0) (k : ℕ) → P (table_at (after t c) cs k) → P (table_at t (c ∷ cs) (suc k))
  later P k h = subst P (table_later t c cs k) h

  fits_first : Fits t (c ∷ cs) 0
  fits_first = subst (λ (u : Table). may u c ≡ true) (sym (table_first t (c ∷ cs))) m

  runs_on : Runs (after t c) cs (row (after t c) (suc i) cs) → Runs t (c ∷ cs) (row t i (c ∷ cs))
  runs_on r = record {
    notes = noted t c ∷ r.notes;
    is = row_goes t i c cs m ∙ ap (noting (noted t c)) r.is ∙ ap (played (noted t c ∷ r.notes)) (table_later t c cs (length cs));
    fit = fits;
    plays = record { many = ap suc r.plays.many; each = notes };
  }
    where
      fits : AllFit t (c ∷ cs)
      fits zero l = fits_first
      fits (suc k) l = later (λ u. may u (card_at cs k) ≡ true) k (r.fit k (omega arith))

      notes : (k : ℕ) → k < length (c ∷ cs) → (d : Noted) → get_or (noted t c ∷ r.notes) k d ≡ noted (table_at t (c ∷ cs) k) (card_at (c ∷ cs) k)
      notes zero l d = ap (λ (u : Table). noted u c) (sym (table_first t (c ∷ cs)))
      notes (suc k) l d = later (λ u. get_or r.notes k d ≡ noted u (card_at cs k)) k (r.plays.each k (omega arith) d)

  halts_later : Halts (after t c) cs (suc i) (row (after t c) (suc i) cs) → Halts t (c ∷ cs) i (row t i (c ∷ cs))
  halts_later h = record {
    number = h.number;
    place = suc h.place;
    is = row_goes t i c cs m ∙ ap (noting (noted t c)) h.is ∙ ap (refuses h.number) (let e : suc i + h.place ≡ i + suc h.place = omega arith in e);
    stops = record {
      there = omega (arith, h.stops.there);
      here = λ f. h.stops.here (subst (λ (u : Table). may u (card_at cs h.place) ≡ true) (sym (table_later t c cs h.place)) f);
      before = fits;
    };
    why = later (λ u. Why u (card_at cs h.place) h.number) h.place h.why;
  }
    where
      fits : (k : ℕ) → k < suc h.place → Fits t (c ∷ cs) k
      fits zero l = fits_first
      fits (suc k) l = later (λ u. may u (card_at cs k) ≡ true) k (h.stops.before k (omega arith))

halts_here : (t : Table) (n c : ℕ) (cs : List ℕ) (i : ℕ) → InOrder t n → may t c ≡ false → Halts t (c ∷ cs) i (row t i (c ∷ cs))
unfolding table_at
halts_here t n c cs i o m = record {
  number = why t c;
  place = 0;
  is = row_stops t i c cs m ∙ ap (refuses (why t c)) (let e : i ≡ i + 0 = omega arith in e);
  stops = record { there = omega arith; here = both_ways _ m; before = λ k l. absurd (omega arith) };
  why = why_right t n o.sound c m;
}

row_reads : (t : Table) (n : ℕ) (cs : List ℕ) (i : ℕ) → InOrder t n → Runs t cs (row t i cs) ⊎ Halts t cs i (row t i cs)
unfolding row table_at
row_reads t n [] i o = inl (record { notes = []; is = refl; fit = λ k l. absurd (omega arith); plays = record { many = refl; each = λ k l. absurd (omega arith) } })
row_reads t n (c ∷ cs) i o = elim (cases_Bool (may t c)) [
  | inl m ↦ elim (row_reads (after t c) (left_after t n) cs (suc i) (stays_sound t n c o m)) [
    | inl r ↦ inl (runs_on t c cs i m r)
    | inr h ↦ inr (halts_later t c cs i m h)
  ]
  | inr m ↦ inr (halts_here t n c cs i o m)
]

-- a row stops at one place
stops_once : (t : Table) (cs : List ℕ) (p q : ℕ) → Stops t cs p → Stops t cs q → p ≡ q
stops_once t cs p q a b = elim (cases_order p q) [
  | inl e ↦ e
  | inr o ↦ elim o [ inl l ↦ absurd (a.here (b.before p l)) | inr l ↦ absurd (b.here (a.before q l)) ]
]

module _ (t : Table) (places : ℕ) (cs : List ℕ) (o : Outcome) where
  right_short : places < cards_left t → o ≡ refuses 11 1 → Right t places cs o
  right_short l e = record {
    short = λ _. l;
    shorts = λ _. e;
    taken = λ ns u f. let z : ◌≡◌ {A = ℕ} 0 1 = cc in absurd (omega arith);
    takes = λ k. absurd (omega arith);
    refused = λ n p f ne. let z : n ≡ 11 = cc in absurd (ne z);
    refuses_first = λ k. absurd (omega arith);
  }

  right_taken : cards_left t ≤ places → Runs t cs o → Right t places cs o
  right_taken l r =
      let is = r.is in record {
        short = λ f. let z : ◌≡◌ {A = ℕ} 0 1 = cc in absurd (omega arith);
        shorts = λ k. absurd (omega arith);
        taken = λ ns u f.
            let same : r.notes ≡ ns = cc in
            (l, r.fit, (let z : u ≡ table_at t cs (length cs) = cc in z), subst (λ (xs : List Noted). PlaysOf t cs xs) same r.plays);
        takes = λ _ _. (r.notes, is, r.plays);
        refused = λ n p f. let z : ◌≡◌ {A = ℕ} 0 1 = cc in absurd (omega arith);
        refuses_first = λ _ n p s w. absurd (s.here (r.fit p s.there));
      }

  right_refused : cards_left t ≤ places → Halts t cs 0 o → Right t places cs o
  right_refused l h =
      let is : o ≡ refuses h.number h.place = h.is ∙ ap (refuses h.number) (let e : 0 + h.place ≡ h.place = omega arith in e) in record {
        short = λ f. let z : h.number ≡ 11 = cc in absurd (omega (arith, why_of_card h.why));
        shorts = λ k. absurd (omega arith);
        taken = λ ns u f. let z : ◌≡◌ {A = ℕ} 0 1 = cc in absurd (omega arith);
        takes = λ _ fit. absurd (h.stops.here (fit h.place h.stops.there));
        refused = λ n p f ne.
            let at : h.place ≡ p = cc in
            let number : h.number ≡ n = cc in
            (l, subst (λ (q : ℕ). Stops t cs q) at h.stops, subst (λ (k : ℕ). Why (table_at t cs p) (card_at cs p) k) number (subst (λ (q : ℕ). Why (table_at t cs q) (card_at cs q) h.number) at h.why));
        refuses_first = λ _ n p s w.
            let at : h.place ≡ p = stops_once t cs h.place p h.stops s in
            is ∙ ap₂ refuses (why_one (table_at t cs p) (card_at cs p) (subst (λ (q : ℕ). Why (table_at t cs q) (card_at cs q) h.number) at h.why) w) at;
      }

pub refereed_right : (t : Table) (n places : ℕ) (cs : List ℕ) → InOrder t n → Right t places cs (refereed t places cs)
refereed_right t n places cs o = elim (cases_lt places (cards_left t)) [
  | inl l ↦ right_short t places cs _ l (ap (λ (b : Bool). pick b (refuses 11 1) (row t 0 cs)) (lt-ltb _ _ l))
  | inr l ↦
      subst (λ (b : Bool). Right t places cs (pick b (refuses 11 1) (row t 0 cs))) (sym (le-ltb _ _ l))
      (elim (row_reads t n cs 0 o) [ inl r ↦ right_taken t places cs _ l r | inr h ↦ right_refused t places cs _ l h ])
]

-- with places enough a refusal is for a card
pub card_refused : (t : Table) (n places : ℕ) (cs : List ℕ) → InOrder t n → cards_left t ≤ places → (m p : ℕ) → refereed t places cs ≡ refuses m p → m ≡ 11 → ⊥
card_refused t n places cs o l m p e is =
    let f = ap (λ (b : Bool). pick b (refuses 11 1) (row t 0 cs)) (le-ltb _ _ l) in
    elim (row_reads t n cs 0 o) [
      | inl r ↦ let run = r.is in let z : ◌≡◌ {A = ℕ} 0 1 = cc in omega arith
      | inr h ↦ let halt = h.is in let z : h.number ≡ m = cc in omega (arith, why_of_card h.why)
    ]
