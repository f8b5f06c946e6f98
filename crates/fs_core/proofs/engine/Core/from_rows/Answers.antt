use Rattle.std.proofs.Common.{sym, subst}
use Rattle.fs_calls.specs.Starts.{Start}
use Rattle.fs_seq.specs.Rows.{IsWithinLimits}
use Rattle.fs_seq.proofs.Fitting.{fitting_rows_are_trees}
use Rattle.fs_core.proofs.engine.Core.from_rows.Goals as goal

pub from_tree-requires-clause-within : goal.from_tree-requires-clause-within
from_tree-requires-clause-within c =
    subst (λ (s : Start). IsWithinLimits s.limits s.tree) (sym c.in-Ok.ensures.tree) ((fitting_rows_are_trees c.args.limits c.args.rows.now).0 c.in-Ok.ensures.fits).0
