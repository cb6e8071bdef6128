use Rattle.std.proofs.Common.{ℕ, not, ap, ◌∙◌, rules}
use Rattle.cards.specs.Seen.{seen}
use Rattle.claims.specs.Claims.{upheld}
use Rattle.claims.specs.Failing.{failing}
use Rattle.claims.specs.Claimed.{claims_side, claims_tricks}
use Rattle.claims.proofs.TriedLaws.{lowest_told}
use Rattle.claims.proofs.failing.failing_under.Goals as goal

pub returns-clause-card : goal.returns-clause-card
returns-clause-card c =
    let side = claims_side c.args.claim in
    let k = claims_tricks c.args.claim in
    lowest_told (λ w. not (upheld side c.tricks_left-left.result k w)) _ c.lowest_card.ensures.card (λ w b h. search rules)
    ∙ ap (λ (n : ℕ). failing side n k (seen c.args.board.now)) c.tricks_left-left.ensures
