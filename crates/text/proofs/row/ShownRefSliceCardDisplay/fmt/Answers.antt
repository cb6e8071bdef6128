use Rattle.std.proofs.Common.{codes, refl, arith}
use Rattle.std.proofs.lemmas.Grind.{common_steps}
use Rattle.text.specs.Cards.{card_text}
use Rattle.text.proofs.EachLaws.{by_told}
use Rattle.text.proofs.row.ShownRefSliceCardDisplay.fmt.Goals as goal

pub returns-in_ok-write-in-len1-up-clause-writes : goal.returns-in_ok-write-in-len1-up-clause-writes
returns-in_ok-write-in-len1-up-clause-writes g c = λ plain ok.
    let first = c.in_ok-write-in-len1-up.ensures.writes plain refl in
    let more = by_told (codes " ") card_text (λ c. c.number) _ (c.show_each.ensures _ (λ x. refl) first.plain ok) in
    grind (arith, common_steps, first, more)
