use Rattle.std.proofs.Common.{◌≡◌, ◌^◌, ◌-◌, min, map, take}
use Rattle.fs_sched.specs.Runs.{calls_in}
use Rattle.fs_sched.proofs.running.count_calls.Given as goal

abbrev pub invariant-loop-calls : goal.invariant-loop-calls
invariant-loop-calls l = l.count ≡ min (2 ^ 64 - 1) (calls_in (map (λ v. v.items) (take l.calls-index l.lists)))
