-- Text that a loop writes piece by piece. Assumes nothing.
use Rattle.std.proofs.Common.{◌≡◌, ℕ, ◌+◌, ◌<◌, true, List, ◌∷◌, ◌++◌, length, get_or, drop, sym, refl, ap, ◌∙◌, append_assoc}
use Rattle.std.specs.declared.fmt.Formatter.{Formatter}
use Rattle.std.specs.Fmt.{IsPlainFormatter, HasWritten}
use Rattle.std.proofs.Output.{has_written_append}
use Rattle.std.proofs.lemmas.List.{at_drop_more}

-- of a text, all but the rest was written, from f to g
pub record Sofar {W : Type 0} (took : W → List ℕ → W → Type 0) (f : Formatter W) (text rest : List ℕ) (g : Formatter W) : Type 0 where
  pub done : List ℕ
  pub put : IsPlainFormatter f → HasWritten took f done g
  pub whole : done ++ rest ≡ text

module _ {W : Type 0} (took : W → List ℕ → W → Type 0) where
  pub one_more : {f g h : Formatter W} {text rest : List ℕ} (piece rest' : List ℕ) → Sofar took f text rest g → (IsPlainFormatter g → true ≡ true → HasWritten took g piece h) → rest ≡ piece ++ rest' → Sofar took f text rest' h
  one_more {f = f} {g = g} {h = h} piece rest' s p e = record {
    done = s.done ++ piece;
    put = λ plain. has_written_append took f s.done g piece h (s.put plain) (p (s.put plain).plain refl);
    whole = append_assoc s.done piece rest' ∙ ap (λ (l : List ℕ). s.done ++ l) (sym e) ∙ s.whole;
  }

-- what a function says of a list from i on, at the item there
pub at_item : {X Y : Type 0} (F : List X → Y) (xs : List X) (i : ℕ) (x : X) → i < length xs → x ≡ get_or xs i x → F (drop i xs) ≡ F (x ∷ drop (i + 1) xs)
at_item {X = X} F xs i x h is = at_drop_more F xs i x h ∙ ap (λ (y : X). F (y ∷ drop (i + 1) xs)) (sym is)
