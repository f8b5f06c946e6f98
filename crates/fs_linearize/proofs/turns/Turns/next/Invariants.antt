use Rattle.std.proofs.Common.{IfSome}
use Rattle.std.specs.List.{Contains}
use Rattle.fs_linearize.proofs.turns.Turns.next.Given as goal

abbrev pub invariant-loop-call : goal.invariant-loop-call
invariant-loop-call l = IfSome l.next (λ found. Contains l.calls found.0)
