use Rattle.std.proofs.Common.{◌≡◌, length}
use Rattle.fs_script.specs.Script.{blocks_from, nothing_yet}
use Rattle.fs_script.specs.code.Drafts.{lines_in}
use Rattle.fs_script.proofs.reading.script_in.Given as goal

abbrev pub invariant-lines : goal.invariant-lines
invariant-lines l = blocks_from l.fn.lines.number (nothing_yet l.fn.limits) l.fn.lines.lines ≡ lines_in l.in_schedule l.left.number l.draft.script l.left.lines

abbrev pub decreases-lines : goal.decreases-lines
decreases-lines l = length l.left.lines
