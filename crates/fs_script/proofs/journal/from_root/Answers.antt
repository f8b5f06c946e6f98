use Rattle.std.proofs.Common.{sym, subst}
use Rattle.fs_names.specs.declared.limits.Limits.TheVariants.{V1}
use Rattle.fs_calls.specs.Starts.{Start}
use Rattle.fs_seq.specs.Rows.{IsWithinLimits}
use Rattle.fs_script.proofs.StartLemmas.{root_within}
use Rattle.fs_script.proofs.journal.from_root.Goals as goal

pub returns-in-Ok-with_limits-clause-within : goal.returns-in-Ok-with_limits-clause-within
returns-in-Ok-with_limits-clause-within c =
    subst (λ (s : Start). IsWithinLimits s.limits s.tree) (sym c.in-Ok-with_limits.ensures) (root_within V1)
