-- What comes of a card of a board: the table under the same root, and what the card brings. Assumes nothing.
use Rattle.std.proofs.Common.{◌≡◌, ℕ, ◌+◌, ◌≤◌, ap, arith}
use Rattle.cards.specs.Table.{Table}
use Rattle.cards.specs.Seen.{seen, tricks_left}
use Rattle.cards.specs.declared.board.Board.{Board}
use Rattle.cards.proofs.Order.{in_order}
use Rattle.tricks.specs.Rules.{after, gains}
use Rattle.tricks.specs.Taken.{taker_of, gain_of}
use Rattle.tricks.specs.Moves.{After}
use Rattle.tricks.specs.declared.play.Played.{Played}
use Rattle.worth.specs.Value.{worth_of}
use Rattle.worth.specs.Positions.{Under}
use Rattle.worth.proofs.ValueLaws.{card_within}
use Rattle.worth.proofs.PositionLaws.{under_after}

module _ (b : Board) (c : ℕ) (p : Played) (played : After b c p) where
  pub after_under : (root : Table) → Under root (seen b) → Under root (seen p.board)
  after_under root u = under_after root (seen b) (seen p.board) c u played.table

  pub after_worth : (gain rest : ℕ) → gain ≡ gain_of (taker_of p.taker) → rest ≡ worth_of (seen p.board) → gain + rest ≡ gains (seen b) c + worth_of (after (seen b) c)
  after_worth gain rest e f = omega (arith, played.gain, ap worth_of played.table)

  pub after_within : (left gain rest : ℕ) → left ≡ tricks_left b → gain ≡ gain_of (taker_of p.taker) → rest ≡ worth_of (seen p.board) → gain + rest ≤ left
  after_within left gain rest l e f = omega (arith, after_worth gain rest e f, card_within (seen b) (tricks_left b) c (in_order b).sound played.legal)
