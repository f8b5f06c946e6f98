use Rattle.std.proofs.Common.{◌≡◌, ℕ, List, map}
use Rattle.std.specs.Ordering.{nat_cmp}
use Rattle.std.specs.BTreeMap.{get}
use Rattle.fs_linearize_histories.specs.declared.heard.Heard.{Heard}
use Rattle.fs_linearize_dialects.specs.Dialects.{named_in, widened_entry}
use Rattle.fs_linearize_dialects.proofs.widening.widened_entries.Given as goal

abbrev pub invariant-loop-entry : goal.invariant-loop-entry
invariant-loop-entry l = (h : List Heard) → ((c : ℕ) → get nat_cmp l.names c ≡ named_in c h) → l.wide.items ≡ map (widened_entry l.rows h) l.yielded
