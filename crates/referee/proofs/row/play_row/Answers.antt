use Rattle.std.proofs.Common.{◌≡◌, ℕ, List, length, take, drop, Ok, Err, Result, sym, ap, ◌∙◌, subst, ap₂}
use Rattle.std.proofs.Math.Seq.{take-append_seam, drop-append_seam}
use Rattle.cards.specs.Few.{listed}
use Rattle.cards.specs.Table.{Table}
use Rattle.cards.specs.Seen.{seen, tricks_left}
use Rattle.cards.specs.declared.board.Board.{Board}
use Rattle.cards.specs.declared.refusal.Refusal.{Refusal}
use Rattle.cards.proofs.Order.{in_order}
use Rattle.referee.specs.Plays.{notes_of}
use Rattle.referee.specs.Row.{Outcome, played}
use Rattle.referee.specs.Parts.{Within, Written}
use Rattle.referee.specs.Refereed.{told, stays, Refereed}
use Rattle.referee.specs.Right.{Right}
use Rattle.referee.specs.declared.row.Log.{Log}
use Rattle.referee.specs.declared.row.Play.{Play}
use Rattle.referee.proofs.RowRight.{refereed_right}
use Rattle.referee.proofs.row.play_row.Goals as goal

-- the answer of the log is that of the result and the slice
answered : (t : Table) (cs : List ℕ) (lent lent' : List Play) (log : Result Log Refusal) (r : Result Board Refusal) →
    Within t (length lent) cs log → Written log lent lent' r → Refereed t cs lent lent' r
answered t cs lent lent' (Ok l) r w (same, all) =
    let front : take (length cs) lent' ≡ listed l.plays = ap₂ take (sym w.many) all ∙ take-append_seam (listed l.plays) _ in
    let back : drop (length cs) lent' ≡ drop (length cs) lent =
    ap₂ drop (sym w.many) all ∙ drop-append_seam (listed l.plays) _ ∙ ap (λ (n : ℕ). drop n lent) w.many in record {
      answer = ap (told (length cs) lent') same ∙ ap (λ (xs : List Play). played (notes_of xs) (seen l.board)) front ∙ w.answer;
      rest = subst (λ (x : Result Board Refusal). stays (length cs) lent' x ≡ stays (length cs) lent x) (sym same) back;
    }
answered t cs lent lent' (Err x) r w (same, back) = record {
  answer = ap (told (length cs) lent') same ∙ w.answer;
  rest = subst (λ (y : Result Board Refusal). stays (length cs) lent' y ≡ stays (length cs) lent y) (sym same) back;
}

pub returns : goal.returns
returns c =
    let b = c.args.board.now in
    let cs = c.args.row.now in
    let lent = c.args.plays.now in
    let value = answered (seen b) cs lent _ c.log_within.result c.hand_over.result c.log_within.ensures c.hand_over.ensures in
    record {
      value = value;
      right = subst (λ (o : Outcome). Right (seen b) (length lent) cs o) (sym value.answer) (refereed_right (seen b) (tricks_left b) (length lent) cs (in_order b));
    }
