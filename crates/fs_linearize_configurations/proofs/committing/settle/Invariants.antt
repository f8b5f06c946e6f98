use Rattle.std.proofs.Common.{List}
use Rattle.fs_linearize_histories.specs.declared.heard.Heard.{Heard}
use Rattle.fs_linearize_configurations.specs.code.Calls.{AreEach}
use Rattle.fs_linearize_configurations.specs.code.Searching.{SettlesTo}
use Rattle.fs_linearize_configurations.proofs.committing.settle.Given as goal

abbrev pub invariant-loop-call : goal.invariant-loop-call
invariant-loop-call l = (h : List Heard) → AreEach h l.fn.reached.configuration.at l.calls → SettlesTo h l.fn.links.items l.links.items l.fn.reached l.now
