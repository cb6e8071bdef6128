-- Texts one after another. Assumes nothing: these are definitions.
use Rattle.std.specs.Prelude.{ℕ, List, ◌++◌}
use Rattle.std.specs.List.{flat_map}

-- items that stand after others: the text of each after a separator
abbrev pub each_after : {X : Type 0} → List ℕ → (X → List ℕ) → List X → List ℕ
each_after separator text xs = flat_map (λ x. separator ++ text x) xs
