use Rattle.std.proofs.Common.{rules, ◌≡◌, ℕ, List, Option, Some, IsSomeAnd, sym, subst}
use Rattle.fs_sched.specs.declared.running.RunEnd.{RunEnd}
use Rattle.fs_sched.specs.declared.schedule.Schedule.{Schedule}
use Rattle.fs_trace.specs.Traces.{IsTraceOf}
use Rattle.fs_embed.specs.Numbered.{is_set, schedule_of}
use Rattle.fs_embed.specs.Told.{Tells}
use Rattle.atomfs_c.proofs.tools.atomfs_trace.Goals as goal

pub returns-in-Ok-clause-traced : goal.returns-in-Ok-clause-traced
returns-in-Ok-clause-traced c below =
    let is : schedule_of c.args.schedule c.args.seed ≡ Some c.in-Some.by = search rules in
    let trace = c.in-Ok.ensures.traced in
    subst (λ (o : Option Schedule). IsSomeAnd o (λ by. (e : RunEnd) × (x : List ℕ) × IsTraceOf by (is_set c.args.every) c.args.script.now e x × Tells c.tell.result x c.tell.new.count c.args.out.now c.tell.new.out)) (sym is)
    (c.in-Ok.made.end, c.in-Ok.made.text.items, (rw c.is_set.ensures at trace), (rw c.as_slice.ensures.value at c.tell.ensures.tells))
