use Rattle.std.proofs.Common.{◌≡◌, ℕ, take}
use Rattle.std.specs.Ordering.{nat_cmp}
use Rattle.std.specs.BTreeMap.{get}
use Rattle.fs_linearize_dialects.specs.Dialects.{named_in}
use Rattle.fs_linearize_dialects.proofs.widening.names_in.Given as goal

abbrev pub invariant-loop-entry : goal.invariant-loop-entry
invariant-loop-entry l = (c : ℕ) → get nat_cmp l.names c ≡ named_in c (take l.entry-index l.history)
