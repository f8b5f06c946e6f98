use Rattle.std.proofs.Common.{length}
use Rattle.fs_words.specs.Lines.{lines_of}
use Rattle.fs_sched_shrink.specs.code.Thinning.{blocks_thinned, AddsLine}
use Rattle.fs_sched_shrink.proofs.thinning.push_blocks.Given as goal

abbrev pub invariant-lines : goal.invariant-lines
invariant-lines l = AddsLine (blocks_thinned l.kept (lines_of l.lines)) (blocks_thinned l.flags (lines_of l.left)) l.fn.text.items l.text.items

abbrev pub decreases-lines : goal.decreases-lines
decreases-lines l = length l.left
