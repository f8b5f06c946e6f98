use Rattle.std.proofs.Common.{◌≡◌, ◌++◌, drop}
use Rattle.fs_linearize_configurations.specs.code.Calls.{without_call}
use Rattle.fs_linearize_configurations.proofs.under_way.without.Given as goal

abbrev pub invariant-loop-call : goal.invariant-loop-call
invariant-loop-call l = l.rest.items ++ without_call l.number (drop l.call-index l.calls) ≡ without_call l.number l.calls
