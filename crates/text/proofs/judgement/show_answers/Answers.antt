use Rattle.std.proofs.Common.{◌++◌, codes, decimal, refl}
use Rattle.std.proofs.lemmas.Grind.{put_two}
use Rattle.claims.specs.Judged.{reply_told}
use Rattle.text.specs.Judgements.{reply_text}
use Rattle.text.proofs.EachLaws.{by_told}
use Rattle.text.proofs.judgement.show_answers.Goals as goal

pub returns : goal.returns
returns g c = λ plain ok.
    let first = c.in_ok-write.ensures.writes plain refl in
    let more = by_told (codes "\n") reply_text reply_told _ (c.show_each.ensures _ (λ x. refl) first.plain ok) in
    put_two _ _ _ _ (codes "worth " ++ (decimal c.args.worth ++ codes "\nnot upheld")) _ _ first more refl
