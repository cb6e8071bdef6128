-- The argument of a program, and its end. Assumes nothing: these are definitions.
use Rattle.std.specs.Prelude.{◌≡◌, ℕ, ◌≤◌, List, Option, Result, MatchResult}
use Rattle.std.specs.Option.{SomeIff}
use Rattle.std.specs.Str.Parse.{IsNumeral, digits_value, without_leading_plus}

-- the number that the digits of a word say; a plus may stand before them
abbrev pub said : List ℕ → ℕ
said w = digits_value 10 (without_leading_plus w)

-- the most cards in a hand that a word asks for: it is a number, from 1 to 8
abbrev pub Served : List ℕ → Option ℕ → Type 0
Served w r = SomeIff r (IsNumeral 10 (without_leading_plus w) × (1 ≤ said w) × (said w ≤ 8)) (said w)

-- with which status a program ends that is asked to serve so many cards: 0 after a good run for them, and 1 where its argument asks for none
abbrev pub Ended : {E : Type 0} → Result ℕ E → (ℕ → Type 0) → ℕ → Type 0
Ended asked ran status = MatchResult asked (λ n. (status ≡ 0) × ran n) (λ _. status ≡ 1)
