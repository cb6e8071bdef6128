use Rattle.std.proofs.Common.{◌≡◌, ◌<◌, get_or, drop}
use Rattle.cards.specs.Table.{suit}
use Rattle.cards.specs.Hands.{numbers}
use Rattle.cards.specs.Numbers.{trump_number}
use Rattle.tricks.specs.Rules.{best}
use Rattle.tricks.proofs.taker.best_place.Given as goal

-- the best so far and the cards from here on have the same best place as all four
abbrev pub invariant-loop-place : goal.invariant-loop-place
invariant-loop-place l =
    (best (trump_number l.trump) (suit (get_or (numbers l.fn.cards) 0 0)) (get_or (numbers l.fn.cards) l.best 0) l.best l.place (drop l.place (numbers l.fn.cards))
    ≡ best (trump_number l.trump) (suit (get_or (numbers l.fn.cards) 0 0)) (get_or (numbers l.fn.cards) 0 0) 0 1 (drop 1 (numbers l.fn.cards)))
    × (l.best < 4)
