-- Items that stand after others, one at a time. Assumes nothing.
use Rattle.std.proofs.Common.{◌≡◌, ℕ, ◌+◌, ◌<◌, List, [], ◌∷◌, ◌++◌, length, get_or, map, take, sym, ap, ◌∙◌}
use Rattle.std.specs.declared.fmt.Formatter.{Formatter}
use Rattle.std.specs.Fmt.{HasWritten}
use Rattle.std.proofs.Output.{has_written_of_eq}
use Rattle.std.proofs.lemmas.List.{take_more, flat_map_more}
use Rattle.std.proofs.lemmas.List.Folds.{flat_map-map}
use Rattle.text.specs.Each.{each_after}

-- the first i items, and the one after them
pub one_after : {X : Type 0} (sep : List ℕ) (text : X → List ℕ) (xs : List X) (i : ℕ) (x : X) → i < length xs → x ≡ get_or xs i x → each_after sep text (take i xs) ++ (sep ++ text x) ≡ each_after sep text (take (i + 1) xs)
one_after sep text xs i x low is =
    flat_map_more (λ y. sep ++ text y) [] (take i xs) x ∙ ap (λ y. each_after sep text (take i xs ++ y ∷ [])) is ∙ ap (each_after sep text) (sym (take_more xs i x low))

-- what was written of items, told by what they stand for
pub by_told : {W X A : Type 0} {took : W → List ℕ → W → Type 0} {f g : Formatter W} (sep : List ℕ) (text : A → List ℕ) (told : X → A) (xs : List X) → HasWritten took f (each_after sep (λ x. text (told x)) xs) g → HasWritten took f (each_after sep text (map told xs)) g
by_told sep text told xs p = has_written_of_eq _ _ _ _ _ (sym (flat_map-map (λ a. sep ++ text a) told xs)) p
