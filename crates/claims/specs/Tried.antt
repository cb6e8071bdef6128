-- What a card brings that was tried, and the lowest card whose worth passes a test. Assumes nothing: these are definitions.
use Rattle.std.specs.Prelude.{◌≡◌, ℕ, ◌<◌, Bool, true, false, Some, None, IfSome, Option}
use Rattle.cards.specs.Table.{Table, pick, deck}
use Rattle.tricks.specs.Rules.{may}
use Rattle.claims.specs.Advice.{worth_by}

-- the tricks for our side by card c, if it may be played
abbrev pub tried : Table → ℕ → Option ℕ
tried t c = pick (may t c) (Some (worth_by t c)) None

-- how far the cards were tried: to the card that was found, or all of them
abbrev pub reach : Option ℕ → ℕ
reach None = deck
reach (Some c) = c

-- what was found is the lowest card that may be played and whose worth passes a test, which says b of worth v where Says v b
pub record LowestCard (Says : ℕ → Bool → Type 0) (t : Table) (found : Option ℕ) : Type 0 where
  pub passes : IfSome found (λ c. (may t c ≡ true) × Says (worth_by t c) true)
  pub before : (c : ℕ) → c < reach found → may t c ≡ true → Says (worth_by t c) false
