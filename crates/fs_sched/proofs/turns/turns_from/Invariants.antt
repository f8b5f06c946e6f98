use Rattle.std.proofs.Common.{◌≡◌, ◌++◌, ◌-◌}
use Rattle.fs_sched.specs.Schedules.{generator_of, turns_from}
use Rattle.fs_sched.proofs.turns.turns_from.Given as goal

abbrev pub invariant-loop : goal.invariant-loop
invariant-loop l = l.words.items ++ turns_from l.threads l.most (l.turns - l.counter) l.draws ≡ turns_from l.threads l.most l.turns (generator_of l.seed)
