use Rattle.claims.proofs.FailLaws.{refused_by_card}
use Rattle.claims.proofs.stands.refused_by_card_stands.Goals as goal

pub returns : goal.returns
returns c = refused_by_card
