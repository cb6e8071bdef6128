use Rattle.std.proofs.Common.{◌≡◌, Bool, [], ◌∷◌, ◌++◌, length, Some, None, sym, ap, ◌∙◌, rules}
use Rattle.std.proofs.lemmas.Bool.{eqb-true}
use Rattle.cards.specs.Table.{pick}
use Rattle.cards.specs.Seen.{seen}
use Rattle.tricks.specs.Rules.{winner}
use Rattle.tricks.proofs.BoardLaws.{cards_on}
use Rattle.tricks.proofs.TrickLaws.{taker_is}
use Rattle.tricks.proofs.taker.taker.Goals as goal

pub returns : goal.returns
returns c =
    let b = c.args.board.now in
    let t = seen b in
    let x = c.args.card.number in
    let three : length b.trick ≡ 3 = search rules in
    let last = sym c.if-not-ends_trick.ensures in
    let all : b.played ≡ 3 = sym (cards_on b.trick b.played three b.short) ∙ eqb-true _ _ last in
    ap Some (c.trick_taker.ensures ∙ taker_is t b.trick b.played x _ _ _ three all)
    ∙ sym (ap (λ (e : Bool). pick e (Some (winner t (t.trick ++ (x ∷ [])))) None) last)
