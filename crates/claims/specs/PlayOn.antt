-- Playing on from a table: one side goes by advice, the other plays the cards of a row one after the other, to the end or to the row's end. Assumes nothing: these are definitions.
use Rattle.std.specs.Prelude.{◌≡◌, ℕ, zero, suc, ◌+◌, Bool, true, false, not, ◌⊎◌, List, [], ◌∷◌, Some, None, Option}
use Rattle.cards.specs.Table.{Table, pick}
use Rattle.tricks.specs.Rules.{our_turn, may, after, gains}
use Rattle.referee.specs.Right.{card_at, table_at, Nobody, Why}
use Rattle.claims.specs.Advice.{advice}
use Rattle.claims.specs.Judging.{own_turn}

-- the card advised to a side, where it is to play and has one
abbrev pub own_card : Bool → Table → Option ℕ
own_card side t = pick (own_turn side t) (advice t) None

-- the row has to say what comes next: the other side is to play, or nobody has a card
abbrev pub RowTurn : Bool → Table → Type 0
RowTurn side t = (our_turn t ≡ not side) ⊎ Nobody t

-- from t on, where `side` goes by advice and the other side has the row cs, the cards ds are played: each card of the side is the one advised,
-- each card of the other side is the next of the row, and the play ends where the row has to say what comes next and has no card
pub data Runs (side : Bool) : Table → List ℕ → List ℕ → Type 0 where
  ends : {t : Table} → RowTurn side t → Runs side t [] []
  by_advice : {t : Table} {cs ds : List ℕ} (c : ℕ) → our_turn t ≡ side → advice t ≡ Some c → Runs side (after t c) cs ds → Runs side t cs (c ∷ ds)
  by_row : {t : Table} {cs ds : List ℕ} (c : ℕ) → our_turn t ≡ not side → may t c ≡ true → Runs side (after t c) cs ds → Runs side t (c ∷ cs) (c ∷ ds)

-- from t on the play comes to a card of the row cs, at place p, that may not be played at its turn, or stands after the last trick; n is the number of its refusal
pub data Halts (side : Bool) : Table → List ℕ → ℕ → ℕ → Type 0 where
  here : {t : Table} {cs : List ℕ} {n : ℕ} (c : ℕ) → RowTurn side t → may t c ≡ false → Why t c n → Halts side t (c ∷ cs) n 0
  past_advice : {t : Table} {cs : List ℕ} {n p : ℕ} (c : ℕ) → our_turn t ≡ side → advice t ≡ Some c → Halts side (after t c) cs n p → Halts side t cs n p
  past_row : {t : Table} {cs : List ℕ} {n p : ℕ} (c : ℕ) → our_turn t ≡ not side → may t c ≡ true → Halts side (after t c) cs n p → Halts side t (c ∷ cs) n (suc p)

-- only one thing comes of a row: it is played, and one row of cards comes about; or it is refused, by one number at one place
pub record OneWay (side : Bool) (t : Table) (cs : List ℕ) : Type 0 where
  pub same_cards : (ds es : List ℕ) → Runs side t cs ds → Runs side t cs es → ds ≡ es
  pub same_refusal : (n m p q : ℕ) → Halts side t cs n p → Halts side t cs m q → (n ≡ m) × (p ≡ q)
  pub not_both : (ds : List ℕ) (n p : ℕ) → Runs side t cs ds → Halts side t cs n p → ⊥

abbrev pub OneCourse : Type 0
OneCourse = (side : Bool) (t : Table) (cs : List ℕ) → OneWay side t cs

-- the tricks that our side takes by the first k cards that are played from t on
unfoldable pub won : Table → List ℕ → ℕ → ℕ
won t ds zero = 0
won t ds (suc k) = won t ds k + gains (table_at t ds k) (card_at ds k)
