use Rattle.std.proofs.Common.{◌≡◌, ℕ, ◌+◌, ◌<◌, ◌≤◌, Bool, length, get_or, drop, sym, ap, ◌∙◌, ap₂, arith}
use Rattle.std.proofs.lemmas.List.{length-map, get_or-map}
use Rattle.cards.specs.Table.{suit, pick}
use Rattle.cards.specs.Hands.{numbers}
use Rattle.cards.specs.Numbers.{trump_number}
use Rattle.tricks.specs.Rules.{beats, best}
use Rattle.tricks.proofs.TrickLaws.{best_first, best_more, best_all}
use Rattle.tricks.proofs.taker.best_place.Goals as goal
use Rattle.tricks.proofs.taker.best_place.Goals.{then-is_better, else-is_better}

pub loop-place-init : goal.loop-place-init
loop-place-init c =
    let xs = numbers c.args.cards in
    (best_first (trump_number c.args.trump) (suit (get_or xs 0 0)) xs (omega (arith, length-map c.args.cards (λ k. k.number))), omega arith)

pub loop-place-preserved : goal.loop-place-preserved
loop-place-preserved c =
    let cards = c.args.cards in
    let xs = numbers cards in
    let T = trump_number c.args.trump in
    let s = suit (get_or xs 0 0) in
    let b = c.loop-place.best in
    let i = c.loop-place.place in
    let long : length xs ≡ length cards = length-map cards (λ k. k.number) in
    let low = c.loop-place.invariant.1 in
    let here : i < length xs = omega arith in
    let F : Bool → ℕ = λ (t : Bool). pick t (best T s (get_or xs i 0) i (i + 1) (drop (i + 1) xs)) (best T s (get_or xs b 0) b (i + 1) (drop (i + 1) xs)) in
    let test : beats T s (get_or xs b 0) (get_or xs i 0) ≡ c.is_better.result =
    ap₂ (λ (x y : ℕ). beats T s x y) (get_or-map (λ k. k.number) cards b c.index-cards-best.result 0 (omega arith)) (get_or-map (λ k. k.number) cards i c.card-item.result 0 (omega arith))
    ∙ sym (c.is_better.ensures s) in
    let known = sym c.loop-place.invariant.0 ∙ best_more T s (get_or xs b 0) b i xs here ∙ ap F test in
    elim c.if-is_better.branch [
      | then-is_better w ↦ (rw w.best-is (sym (known ∙ ap F w.if-is_better.true)), omega (arith, w.best-is))
      | else-is_better w ↦ (rw w.best-is (sym (known ∙ ap F w.if-is_better.false)), omega (arith, w.best-is))
    ]

pub returns : goal.returns
returns c =
    let xs = numbers c.args.cards in
    let all : length xs ≤ c.loop-place.place = omega (arith, length-map c.args.cards (λ k. k.number)) in
    sym (best_all (trump_number c.args.trump) (suit (get_or xs 0 0)) (get_or xs c.loop-place.best 0) c.loop-place.best c.loop-place.place xs all) ∙ c.loop-place.invariant.0
