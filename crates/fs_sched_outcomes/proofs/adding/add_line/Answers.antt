use Rattle.std.proofs.Common.{◌≡◌, ◌+◌, ap, arith}
use Rattle.std.specs.List.{sum_by}
use Rattle.fs_sched_outcomes.specs.Sums.{times_of}
use Rattle.fs_sched_outcomes.specs.code.Adding.{with_row}
use Rattle.fs_sched_outcomes.proofs.AddLemmas.{total_more}
use Rattle.fs_sched_outcomes.proofs.adding.add_line.Goals as goal

pub returns-in-Ok-clause-total : goal.returns-in-Ok-clause-total
returns-in-Ok-clause-total c =
    let new : sum_by times_of c.add.new.self.rows.items ≡ sum_by times_of (with_row c.args.rows.now.rows.items c.in_ok-row.row) = ap (sum_by times_of) c.in-Ok.ensures.rows in
    let sum : sum_by times_of (with_row c.args.rows.now.rows.items c.in_ok-row.row) ≡ sum_by times_of c.args.rows.now.rows.items + c.in_ok-row.row.times = total_more c.args.rows.now.rows.items c.in_ok-row.row in
    omega (arith, new, sum, c.requires.total, c.in-Some.ensures)
