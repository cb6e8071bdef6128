use Rattle.std.proofs.Common.{◌+◌, ◌≤◌, drop}
use Rattle.referee.specs.Plays.{notes_of}
use Rattle.text.specs.Plays.{more_plays}
use Rattle.text.proofs.Sofar.{Sofar}
use Rattle.text.proofs.plays.show_more.Given as goal

abbrev pub invariant-loop-play : goal.invariant-loop-play
invariant-loop-play g l =
    (l.ended ≤ l.before + l.play-index)
    × Sofar g.W.Write.write_str_gives l.initial.f (more_plays l.before (notes_of l.plays)) (more_plays l.ended (notes_of (drop l.play-index l.plays))) l.f
