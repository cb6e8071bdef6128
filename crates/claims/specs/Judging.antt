-- What is judged of a claim of k of the n tricks left, and what is replied to each card of the side that claims. Assumes nothing: these are definitions.
use Rattle.std.specs.Prelude.{ℕ, zero, suc, ◌-◌, ◌%◌, Bool, true, false, not, List, [], ◌∷◌, ◌++◌, Some, None, Option, ◌==◌}
use Rattle.cards.specs.Table.{Table, pick, one, deck}
use Rattle.tricks.specs.Rules.{our_turn, may, after}
use Rattle.tricks.specs.Statements.{left_after}
use Rattle.worth.specs.Value.{worth_of}
use Rattle.claims.specs.Claims.{upheld}
use Rattle.claims.specs.Advice.{advice}
use Rattle.claims.specs.Failing.{failing, takes_by}

-- is it the side's own, where `ours` says that it is our side's
abbrev pub is_own : Bool → Bool → Bool
is_own true ours = ours
is_own false ours = not ours

-- is the side to play
abbrev pub own_turn : Bool → Table → Bool
own_turn side t = is_own side (our_turn t)

-- the tricks that a side takes where this player takes the trick
abbrev pub side_takes : Bool → Option ℕ → ℕ
side_takes side None = 0
side_takes side (Some p) = one (is_own side (p % 2 == 0))

-- the lowest card that makes the claim fail after card c, of what is left of it then
abbrev pub failing_after : Bool → ℕ → ℕ → Table → ℕ → Option ℕ
failing_after side n k t c = failing side (left_after t n) (k - takes_by side t c) (after t c)

-- the same after the card advised, if there is one
abbrev pub failing_after_lead : Bool → ℕ → ℕ → Table → Option ℕ → Option ℕ
failing_after_lead side n k t None = None
failing_after_lead side n k t (Some c) = failing_after side n k t c

-- the lowest card that makes the claim fail at the other side's next turn: this one, or, where the side is to lead, the one after the lead that is advised to it
unfoldable pub next_failing : Bool → ℕ → ℕ → Table → Option ℕ
next_failing side n k t = pick (own_turn side t) (failing_after_lead side n k t (advice t)) (failing side n k t)

-- the reply to card c of the side: in this trick or the next; none where the other side has no turn left
abbrev pub reply_to : Bool → ℕ → ℕ → Table → ℕ → Option ℕ
reply_to side n k t c = next_failing side (left_after t n) (k - takes_by side t c) (after t c)

-- a card, and the reply to it
pub record Answered : Type 0 where
  pub card : ℕ
  pub reply : Option ℕ

abbrev pub answered : Bool → ℕ → ℕ → Table → ℕ → Answered
answered side n k t c = record { card = c; reply = reply_to side n k t c }

-- the cards below i that may be played, lowest first, each with its reply
unfoldable pub replies_below : Bool → ℕ → ℕ → Table → ℕ → List Answered
replies_below side n k t zero = []
replies_below side n k t (suc i) = pick (may t i) (replies_below side n k t i ++ (answered side n k t i ∷ [])) (replies_below side n k t i)

-- a judgement, each with the worth for our side: upheld, with the advice for whoever is to play; or not, with the lowest card by which the claim fails
-- where the other side is to play, and where the side itself is, with the replies to its cards
pub data Judging : Type 0 where
  upholds : ℕ → Option ℕ → Judging
  fails_by : ℕ → Option ℕ → Judging
  replies : ℕ → List Answered → Judging

unfoldable pub judging : Bool → ℕ → ℕ → Table → Judging
judging side n k t =
    pick (upheld side n k (worth_of t)) (upholds (worth_of t) (advice t))
    (pick (own_turn side t) (replies (worth_of t) (replies_below side n k t deck)) (fails_by (worth_of t) (failing side n k t)))
