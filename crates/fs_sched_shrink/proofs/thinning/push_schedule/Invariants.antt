use Rattle.std.proofs.Common.{length}
use Rattle.fs_words.specs.Lines.{lines_of}
use Rattle.fs_sched_shrink.specs.code.Thinning.{words_thinned, AddsLine}
use Rattle.fs_sched_shrink.proofs.thinning.push_schedule.Given as goal

abbrev pub invariant-lines : goal.invariant-lines
invariant-lines l = AddsLine (words_thinned l.kept (lines_of l.lines)) (words_thinned l.flags (lines_of l.left)) l.fn.text.items l.text.items

abbrev pub decreases-lines : goal.decreases-lines
decreases-lines l = length l.left
