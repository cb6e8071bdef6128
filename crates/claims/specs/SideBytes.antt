-- A side by its byte. Assumes nothing: these are definitions.
use Rattle.std.specs.Prelude.{◌≡◌, ℕ, ◌<◌, Ok, Err, Result, ◌==◌}
use Rattle.cards.specs.declared.player.Side.{Side}
use Rattle.cards.specs.declared.refusal.Refusal.{Refusal}
use Rattle.cards.specs.declared.refusal.Refusal.TheVariants.{Claim}
use Rattle.claims.specs.Sides.{is_ours}

-- 0 is ours and 1 the others; any other byte means nothing
abbrev pub SideTold : ℕ → Result Side Refusal → Type 0
SideTold b (Ok s) = (b < 2) × (is_ours s ≡ (b == 0))
SideTold b (Err e) = (1 < b) × (e ≡ Claim)
