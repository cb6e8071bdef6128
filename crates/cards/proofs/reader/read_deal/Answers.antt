use Rattle.cards.proofs.FirstRefusal.{reading_right}
use Rattle.cards.proofs.reader.read_deal.Goals as goal

pub returns-clause-first : goal.returns-clause-first
returns-clause-first c = rw c.checked_deal.ensures.value (reading_right c.args.follow c.args.bytes.now c.args.room)
