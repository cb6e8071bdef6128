use Rattle.std.proofs.Common.{rules, ◌≡◌, ℕ, Bool, true, List, Some, sym, refl, ap, ◌∙◌}
use Rattle.cards.specs.Deal.{byte, start_of, first, fault, uneven, share}
use Rattle.cards.proofs.DealLaws.{first_none, first_some}
use Rattle.cards.proofs.reader.check_shares.Goals as goal

-- the fault of a player's share, by the numbers that the code has for it
share_is : (bs : List ℕ) (p seat own each : ℕ) (b : Bool) → own ≡ share bs p → each ≡ share bs seat → seat ≡ byte bs 1 → b ≡ uneven own each →
    fault (uneven (share bs p) (share bs (byte bs 1))) (start_of bs p) ≡ fault b (start_of bs p)
share_is bs p seat own each b o e s t = rw (t, o, e, s) refl

pub loop-p-init : goal.loop-p-init
unfolding first
loop-p-init c = refl

pub returns-then-is_uneven : goal.returns-then-is_uneven
returns-then-is_uneven c =
    let g = c.args.layout.now in
    let p = c.loop-p.p in (
      refl,
      first_some _ 4 p _ c.loop-p-test.true c.loop-p.invariant
          (share_is g.bytes.now p _ _ _ true c.share.ensures c.share-each.ensures g.leads c.if-is_uneven.ensures ∙ ap Some (sym (g.placed p c.loop-p-test.true))),
    )

pub loop-p-preserved : goal.loop-p-preserved
loop-p-preserved c = search (rules, first_none, share_is)
