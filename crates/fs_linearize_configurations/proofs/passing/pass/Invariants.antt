use Rattle.std.proofs.Common.{◌≡◌, ◌+◌, List, ℕ, Some, slice_get, vec_len}
use Rattle.fs_linearize_histories.specs.declared.heard.Heard.{Heard}
use Rattle.fs_linearize_histories.specs.Histories.{IsHistory}
use Rattle.fs_linearize_configurations.specs.code.Calls.{AreEach}
use Rattle.fs_linearize_configurations.specs.code.Searching.{AllAt}
use Rattle.fs_linearize_configurations.proofs.SearchLemmas.{PassesUpTo}
use Rattle.fs_linearize_configurations.proofs.passing.pass.Given as goal

abbrev pub invariant-loop-reached : goal.invariant-loop-reached
invariant-loop-reached l = (h : List Heard) (place : ℕ) → IsHistory h → slice_get h place ≡ Some l.entry → l.at ≡ place + 1 → AllAt place l.fn.layer → AreEach h l.at l.calls
    → PassesUpTo h l.entry place l.fn.links.items l.links.items l.fn.layer l.before.items l.behind

abbrev pub decreases-loop-reached : goal.decreases-loop-reached
decreases-loop-reached l = vec_len l.before
