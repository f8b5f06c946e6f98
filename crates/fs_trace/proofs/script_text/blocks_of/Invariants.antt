use Rattle.std.proofs.Common.{◌-◌, ◌≤◌, length}
use Rattle.fs_trace.proofs.Heads.{AreCut}
use Rattle.fs_trace.proofs.script_text.blocks_of.Given as goal

-- the lines before this place are no line `schedule`
abbrev pub invariant-lines : goal.invariant-lines
invariant-lines l = record { within : l.start ≤ length l.text; cut : AreCut l.text l.start }

abbrev pub decreases-lines : goal.decreases-lines
decreases-lines l = length l.text - l.start
