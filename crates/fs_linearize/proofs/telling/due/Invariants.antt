use Rattle.std.proofs.Common.{take}
use Rattle.fs_timeline.specs.Timeline.{IsWellFormed}
use Rattle.fs_linearize.specs.code.Tellings.{IsPlayed}
use Rattle.fs_linearize.proofs.telling.due.Given as goal

abbrev pub invariant-loop-place : goal.invariant-loop-place
invariant-loop-place l = IsWellFormed l.journal → IsPlayed l.start l.number (take l.place l.journal) l.played
