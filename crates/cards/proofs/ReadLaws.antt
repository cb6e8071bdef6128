-- The checks one after the other, by what each has found. Assumes nothing.
use Rattle.std.proofs.Common.{◌≡◌, ℕ, ◌+◌, ◌≤◌, true, List, [], ◌∷◌, length, Some, None, Option, Ok, Err, Result, is_ok, sym, refl, ap, ◌∙◌, arith}
use Rattle.std.proofs.lemmas.Bool.{le-ltb, false≢true}
use Rattle.std.specs.Result.{IsErrAnd}
use Rattle.cards.specs.Numbers.{trump_number}
use Rattle.cards.specs.Deal.{byte, start_of, or_else, most_cards, lacks}
use Rattle.cards.specs.Faults.{bad_card, bad_share, bad_suit}
use Rattle.cards.specs.Reading.{Outcome, refuse_at, run, reading}
use Rattle.cards.specs.declared.card.Suit.TheVariants.{Clubs, Diamonds, Hearts, Spades}
use Rattle.cards.specs.declared.card.Trump.{Trump}
use Rattle.cards.specs.declared.card.Trump.TheVariants.{Of, NoTrump}
use Rattle.cards.specs.Parts.{Says, short}
use Rattle.cards.specs.Refusals.{number_of, place_of}
use Rattle.cards.specs.Told.{told_board}
use Rattle.cards.specs.declared.board.Board.{Board}
use Rattle.cards.specs.declared.refusal.Refusal.{Refusal}
use Rattle.cards.specs.declared.refusal.Lent.{Lent}
use Rattle.cards.specs.declared.room.Room.{Room}

pub passes : (o : Option ℕ) (n : ℕ) (later : Outcome) → o ≡ None → refuse_at o n later ≡ later
passes o n later e = ap (λ (x : Option ℕ). refuse_at x n later) e

-- a check's refusal that is handed on
pub says_err : {X : Type 0} (n : ℕ) (r : Result X Refusal) (e : Refusal) (o : Option ℕ) (P : X → Type 0) → IsErrAnd r (λ y. y ≡ e) → number_of e ≡ n → o ≡ Some (place_of e) → Says n r o P
says_err n (Err y) e o P same number place = (ap number_of same ∙ number, place ∙ ap (λ (x : Refusal). Some (place_of x)) (sym same))
says_err n (Ok x) e o P same number place = absurd same

-- the refusal of a check of the table's cards is the answer
pub board_refused : (size n : ℕ) (r : Result Board Refusal) (e : Refusal) (o : Option ℕ) (later : Outcome) → IsErrAnd r (λ y. y ≡ e) → number_of e ≡ n → o ≡ Some (place_of e) → told_board size r ≡ refuse_at o n later
board_refused size n (Err y) e o later same number place = rw (same, number, place) refl
board_refused size n (Ok x) e o later same number place = absurd same

pub or_else_first : (a b : Option ℕ) (p : ℕ) → a ≡ Some p → or_else a b ≡ Some p
or_else_first a b p e = ap (λ (x : Option ℕ). or_else x b) e

pub or_else_second : (a b o : Option ℕ) → a ≡ None → b ≡ o → or_else a b ≡ o
or_else_second a b o e f = ap (λ (x : Option ℕ). or_else x b) e ∙ f

pub trump_low : (t : Trump) → trump_number t ≤ 4
trump_low (Of Clubs) = omega arith
trump_low (Of Diamonds) = omega arith
trump_low (Of Hearts) = omega arith
trump_low (Of Spades) = omega arith
trump_low NoTrump = omega arith

-- room that suffices lacks nothing
pub none_short : {X : Type 0} (r : Result X Lent) (o : Option ℕ) → is_ok r ≡ true → short r ≡ o → o ≡ None
none_short (Ok x) o is e = sym e
none_short (Err l) o is e = absurd (false≢true is)

-- a deal whose head, room and length are good is judged by its cards
pub on_to_cards : (bs : List ℕ) (room : Room) → byte bs 0 ≤ 4 → byte bs 1 ≤ 3 → byte bs 2 ≤ 3 → lacks room (most_cards bs) ≡ None → (n : ℕ) → start_of bs 4 + n ≤ length bs →
    reading n bs room ≡ run n bs room (bad_card ∷ bad_share ∷ bad_suit ∷ [])
on_to_cards bs room t l k r n w = simp (le-ltb 4 (byte bs 0) t, le-ltb 3 (byte bs 1) l, le-ltb 3 (byte bs 2) k, r, le-ltb (length bs) (start_of bs 4 + n) w)
