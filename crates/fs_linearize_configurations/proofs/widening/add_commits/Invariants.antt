use Rattle.std.proofs.Common.{List, take}
use Rattle.fs_linearize_histories.specs.declared.heard.Heard.{Heard}
use Rattle.fs_linearize_configurations.specs.code.Calls.{AreEach}
use Rattle.fs_linearize_configurations.specs.code.Searching.{AddsCommits}
use Rattle.fs_linearize_configurations.proofs.widening.add_commits.Given as goal

abbrev pub invariant-loop-call : goal.invariant-loop-call
invariant-loop-call l = (h : List Heard) → AreEach h l.reached.configuration.at l.calls → AreEach h l.reached.configuration.at l.near → AddsCommits h l.reached (take l.call-index l.near) l.fn.links.items l.links.items l.fn.layer l.layer
