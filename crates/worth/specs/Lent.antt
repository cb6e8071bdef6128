-- What a search does to the positions that it is lent. Assumes nothing: these are definitions.
use Rattle.std.specs.Prelude.{◌≡◌}
use Rattle.worth.specs.declared.positions.Positions.{Positions}

-- the positions p have become q: they are kept of the same root, in the slices that were lent to p
pub record SameSlots (p q : Positions) : Type 0 where
  pub root : q.root ≡ p.root
  pub keys : q.keys.ghost_name ≡ p.keys.ghost_name
  pub worths : q.worths.ghost_name ≡ p.worths.ghost_name
