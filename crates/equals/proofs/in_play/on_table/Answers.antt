use Rattle.std.proofs.Common.{Bool, List, [], ◌∷◌, ◌++◌, ◌||◌, eqb, take, sym, ap, ◌∙◌}
use Rattle.std.proofs.lemmas.List.{map_push, take_more}
use Rattle.cards.specs.Deal.{has}
use Rattle.cards.specs.Hands.{numbers}
use Rattle.cards.specs.declared.card.Card.{Card}
use Rattle.cards.proofs.GatherLaws.{has_push}
use Rattle.equals.specs.Equals.{on}
use Rattle.equals.proofs.in_play.on_table.Goals as goal

pub loop-card-init : goal.loop-card-init
unfolding has
loop-card-init c x = c.empty-lying.ensures x

pub loop-card-preserved : goal.loop-card-preserved
loop-card-preserved c x =
    let cards = c.current_trick-card-items.result.now in
    let i = c.loop-card.card-index in
    let card = c.card-item.result in
    let more = take_more cards i card c.loop-card-test.true ∙ ap (λ (k : Card). take i cards ++ (k ∷ [])) (sym c.card-item.is) in
    c.with-lying.ensures x
    ∙ ap (λ (b : Bool). b || eqb x card.number) (c.loop-card.invariant x)
    ∙ sym (ap (λ (ks : List Card). on x (numbers ks)) more ∙ ap (on x) (map_push (λ k. k.number) (take i cards) card) ∙ has_push (numbers (take i cards)) card.number x)
