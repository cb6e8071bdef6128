-- What a judgement shows, over whole plays. Assumes nothing: these are definitions.
use Rattle.std.specs.Prelude.{◌≡◌, ℕ, ◌-◌, ◌<◌, Bool, true, not, List, [], ◌∷◌, Some, None, Option}
use Rattle.cards.specs.Table.{Table}
use Rattle.tricks.specs.Rules.{our_turn, may, after}
use Rattle.tricks.specs.Statements.{left_after}
use Rattle.claims.specs.Advice.{advice}
use Rattle.claims.specs.Failing.{takes_by, Fails}
use Rattle.claims.specs.Answer.{Named}
use Rattle.claims.specs.Judging.{Answered, Judging, upholds, fails_by, replies}

-- card c of the other side is the lowest by which the claim fails
pub record Refutes (side : Bool) (n k : ℕ) (t : Table) (c : ℕ) : Type 0 where
  pub others : our_turn t ≡ not side
  pub fails : Fails side n k t c
  pub lowest : (d : ℕ) → d < c → Fails side n k t d → ⊥

-- what is named against a claim where the other side is to play: such a card, or none where nobody has a card
abbrev pub Refuted : Bool → ℕ → ℕ → Table → Option ℕ → Type 0
Refuted side n k t None = n ≡ 0
Refuted side n k t (Some c) = Refutes side n k t c

-- a claim of k of n tricks at t comes to the other side's next turn as a claim of j of m at u: at once, or by the card advised to the side, which leads
pub data Comes (side : Bool) (n k : ℕ) (t : Table) : ℕ → ℕ → Table → Type 0 where
  at_once : Comes side n k t n k t
  by_lead : (c : ℕ) → our_turn t ≡ side → t.trick ≡ [] → advice t ≡ Some c → Comes side n k t (left_after t n) (k - takes_by side t c) (after t c)

-- what is named against it at that turn: the lowest card by which it fails there, or none where no trick is left
abbrev pub NextRefuted : Bool → ℕ → ℕ → Table → Option ℕ → Type 0
NextRefuted side n k t None = n ≡ 0
NextRefuted side n k t (Some d) = (m : ℕ) × (j : ℕ) × (u : Table) × Comes side n k t m j u × Refutes side m j u d

-- what is replied to card c refutes what is left of the claim after it
abbrev pub Replied : Bool → ℕ → ℕ → Table → ℕ → Option ℕ → Type 0
Replied side n k t c o = NextRefuted side (left_after t n) (k - takes_by side t c) (after t c) o

-- so it is of each of these
abbrev pub EachReplied : Bool → ℕ → ℕ → Table → List Answered → Type 0
EachReplied side n k t [] = Unit {0}
EachReplied side n k t (a ∷ rest) = (may t a.card ≡ true) × Replied side n k t a.card a.reply × EachReplied side n k t rest

-- what a judgement shows: the card to play; a card that refutes the claim; a reply to each card that may be played, where the side is to play
abbrev pub Shows : Bool → ℕ → ℕ → Table → Judging → Type 0
Shows side n k t (upholds w o) = Named t n o
Shows side n k t (fails_by w o) = Refuted side n k t o
Shows side n k t (replies w rs) = (our_turn t ≡ side) × EachReplied side n k t rs
