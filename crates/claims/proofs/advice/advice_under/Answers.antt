use Rattle.std.proofs.Common.{eqb, rules}
use Rattle.cards.specs.Seen.{seen}
use Rattle.worth.specs.Value.{worth_of}
use Rattle.claims.proofs.TriedLaws.{lowest_told}
use Rattle.claims.proofs.advice.advice_under.Goals as goal

pub returns-clause-card : goal.returns-clause-card
returns-clause-card c = lowest_told (λ w. eqb w (worth_of (seen c.args.board.now))) _ c.lowest_card.ensures.card (λ w b k. search rules)
