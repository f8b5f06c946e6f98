use Rattle.std.proofs.Common.{◌≡◌, map, take}
use Rattle.std.specs.List.{sum_by}
use Rattle.fs_sched_outcomes.specs.Sums.{times_of}
use Rattle.fs_sched_outcomes.specs.code.Adding.{AreKept}
use Rattle.fs_sched_outcomes.specs.code.Mades.{HasLines}
use Rattle.fs_sched_outcomes.proofs.adding.add_lines.Given as goal

abbrev pub invariant-loop-line : goal.invariant-loop-line
invariant-loop-line l = record {
  kept : AreKept l.rows;
  total : sum_by times_of l.rows.rows.items ≡ l.total;
  rows : HasLines (map (λ label. label.items) l.labels) (map (λ line. line.now) (take l.line-index l.lines)) l.rows.rows.items;
}
