-- Refusals as text, in bytes. Assumes nothing: these are definitions.
use Rattle.std.specs.Prelude.{ℕ, List, ◌++◌, codes, decimal}

-- a refusal by its number and its place
abbrev pub refusal_text : ℕ → ℕ → List ℕ
refusal_text number place = codes "refused " ++ (decimal number ++ (codes " at " ++ decimal place))
