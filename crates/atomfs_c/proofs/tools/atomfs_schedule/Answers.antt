use Rattle.std.proofs.Common.{rules, ◌≡◌, ℕ, List, Option, Some, IsSomeAnd, sym, subst}
use Rattle.fs_sched.specs.declared.schedule.Schedule.{Schedule}
use Rattle.fs_trace.specs.Traces.{IsScheduleOf}
use Rattle.fs_embed.specs.Numbered.{schedule_of}
use Rattle.fs_embed.specs.Told.{Tells}
use Rattle.atomfs_c.proofs.tools.atomfs_schedule.Goals as goal

pub returns-in-Ok-clause-scheduled : goal.returns-in-Ok-clause-scheduled
returns-in-Ok-clause-scheduled c below =
    let is : schedule_of c.args.schedule c.args.seed ≡ Some c.in-Some.by = search rules in
    subst (λ (o : Option Schedule). IsSomeAnd o (λ by. (x : List ℕ) × IsScheduleOf by c.args.script.now x × Tells c.tell.result x c.tell.new.count c.args.out.now c.tell.new.out)) (sym is)
    (c.in-Ok.text.items, c.in-Ok.ensures.scheduled, (rw c.as_slice.ensures.value at c.tell.ensures.tells))
