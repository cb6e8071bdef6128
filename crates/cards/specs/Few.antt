-- The values of a list in memory of its own. Assumes nothing: these are definitions.
use Rattle.std.specs.Prelude.{ℕ, List, take}
use Rattle.cards.specs.declared.few.Few.{Few}

-- the first `len` items
abbrev pub listed : {T : Type 0} {N : ℕ} → Few T N → List T
listed f = take f.len f.items
