use Rattle.std.proofs.Common.{◌+◌, ◌++◌, drop, codes, refl, sym, ap, ◌∙◌, arith}
use Rattle.std.proofs.lemmas.Grind.{put_two}
use Rattle.referee.specs.Plays.{note_of, notes_of}
use Rattle.text.specs.Plays.{play_text, more_plays}
use Rattle.text.proofs.Sofar.{one_more, at_item}
use Rattle.text.proofs.plays.show_more.Goals as goal

pub loop-play-preserved : goal.loop-play-preserved
loop-play-preserved g c = (
  omega (arith, c.loop-play.invariant.0, c.count_trick-ended.ensures.bound),
  one_more _ (codes "\n" ++ play_text c.loop-play.ended (note_of c.play-item.result)) _ c.loop-play.invariant.1
      (λ plain ok. let line = c.in_ok-write_str.ensures.writes plain ok in put_two _ _ _ _ _ _ _ line (c.in_ok-show_play.ensures line.plain ok) refl)
      (at_item (λ ps. more_plays c.loop-play.ended (notes_of ps)) _ _ _ c.loop-play-test.true c.play-item.is
      ∙ ap (λ n. (codes "\n" ++ play_text c.loop-play.ended (note_of c.play-item.result)) ++ more_plays n (notes_of (drop (c.loop-play.play-index + 1) c.args.plays.now))) (sym c.count_trick-ended.ensures.value)),
)
