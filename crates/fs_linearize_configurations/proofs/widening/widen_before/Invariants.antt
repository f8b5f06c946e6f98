use Rattle.std.proofs.Common.{List, ℕ}
use Rattle.fs_linearize_histories.specs.declared.heard.Heard.{Heard}
use Rattle.fs_linearize_configurations.specs.code.Calls.{AreEach}
use Rattle.fs_linearize_configurations.specs.code.Searching.{AllAt}
use Rattle.fs_linearize_configurations.proofs.SearchLemmas.{WidensUpTo}
use Rattle.fs_linearize_configurations.proofs.widening.widen_before.Given as goal

abbrev pub invariant-loop-place : goal.invariant-loop-place
invariant-loop-place l = (h : List Heard) (at : ℕ) → AllAt at l.fn.layer → AreEach h at l.calls → WidensUpTo h l.number at l.calls l.place l.fn.links.items l.links.items l.fn.layer l.layer
