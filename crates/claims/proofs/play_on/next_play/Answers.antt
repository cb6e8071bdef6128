use Rattle.std.proofs.Common.{◌≡◌, ℕ, true, false, List, Some, None, Ok, Option, sym, subst, MatchOption}
use Rattle.std.proofs.lemmas.Bool.{both_ways}
use Rattle.cards.specs.Seen.{seen}
use Rattle.cards.specs.Table.{Table}
use Rattle.tricks.specs.Rules.{may}
use Rattle.claims.specs.Nexts.{NextPlayed, NextTold}
use Rattle.claims.specs.Sides.{is_ours}
use Rattle.claims.specs.declared.play_on.Next.{Next}
use Rattle.claims.proofs.NextLaws.{own_legal}
use Rattle.claims.proofs.play_on.next_play.Goals as goal

-- the card advised may be played, so it is
told : (t : Table) (cs : List ℕ) (i c : ℕ) → may t c ≡ true → (r : Option Next) → MatchOption r (may t c ≡ false) (λ x. NextPlayed t c i x) → NextTold (Some c) t cs i (Ok r)
told t cs i c m None f = both_ways _ f m
told t cs i c m (Some x) p = p

pub returns-in-Some-clause-next : goal.returns-in-Some-clause-next
returns-in-Some-clause-next c =
    let t = seen c.args.board.now in
    let x = c.in-Some.card.number in
    let is = c.in-Some.ensures.card in
    subst (λ (o : Option ℕ). NextTold o t c.args.row.now c.args.used (Ok c.by_advice.result)) is
    (told t c.args.row.now c.args.used x (own_legal (is_ours c.args.side) t x (sym is)) c.by_advice.result c.by_advice.ensures)
