use Rattle.std.proofs.Common.{◌≡◌, false, take}
use Rattle.std.specs.List.{list_any}
use Rattle.fs_sched_outcomes.specs.Lines.{is_other}
use Rattle.fs_sched_outcomes.proofs.lines.any_other.Given as goal

abbrev pub invariant-loop-row : goal.invariant-loop-row
invariant-loop-row l = list_any (is_other l.at l.reply) (take l.row-index l.rows) ≡ false
