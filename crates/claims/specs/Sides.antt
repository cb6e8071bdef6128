-- A side as the statements have it. Assumes nothing: these are definitions.
use Rattle.std.specs.Prelude.{Bool, true, false}
use Rattle.cards.specs.declared.player.Side.{Side}
use Rattle.cards.specs.declared.player.Side.TheVariants.{Ours, Others}

-- true for ours, players 0 and 2
abbrev pub is_ours : Side → Bool
is_ours Ours = true
is_ours Others = false
