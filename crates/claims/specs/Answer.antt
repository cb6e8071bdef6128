-- What is answered to who asks for advice and lends memory for it. Assumes nothing: these are definitions.
use Rattle.std.specs.Prelude.{◌≡◌, ℕ, ◌<◌, true, List, Some, None, Ok, Err, Option, Result}
use Rattle.cards.specs.Table.{Table}
use Rattle.cards.specs.declared.card.Card.{Card}
use Rattle.cards.specs.declared.refusal.Refusal.{Refusal}
use Rattle.tricks.specs.Rules.{may}
use Rattle.tricks.specs.Plays.{Worth}
use Rattle.equals.specs.Covered.{card_told}
use Rattle.worth.specs.Positions.{True}
use Rattle.worth.specs.Answer.{usable, TurnedAway}
use Rattle.claims.specs.Advice.{advice, Keeps}

-- card c is the one to play at a table of worth v, over whole plays: it may be played and keeps the worth, and no lower card that may does
pub record Best (t : Table) (v c : ℕ) : Type 0 where
  pub legal : may t c ≡ true
  pub keeps : Keeps t v c
  pub lowest : (d : ℕ) → d < c → may t d ≡ true → Keeps t v d → ⊥

-- what is named to who is to play with n tricks left: the card to play, or none where nobody has a card
abbrev pub Named : Table → ℕ → Option ℕ → Type 0
Named t n None = n ≡ 0
Named t n (Some c) = (v : ℕ) → Worth t v → Best t v c

-- the advice is told: the slices can be used, the card is the advice and the one to play, and what the slices hold afterwards is true
pub record AdviceTold (t : Table) (n : ℕ) (keys worths keys' worths' : List ℕ) (c : Option Card) : Type 0 where
  pub lent : usable keys worths ≡ true
  pub card : card_told c ≡ advice t
  pub named : Named t n (card_told c)
  pub kept : True t keys' worths'

-- the answer for table t with n tricks left and these slices, which are keys' and worths' afterwards
abbrev pub Advised : Table → ℕ → List ℕ → List ℕ → List ℕ → List ℕ → Result (Option Card) Refusal → Type 0
Advised t n keys worths keys' worths' (Ok c) = AdviceTold t n keys worths keys' worths' c
Advised t n keys worths keys' worths' (Err e) = TurnedAway keys worths keys' worths' e
