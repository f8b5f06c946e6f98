use Rattle.std.proofs.Common.{subst}
use Rattle.fs_calls.specs.Tree.{IsTree}
use Rattle.fs_calls.specs.Starts.{start_tree}
use Rattle.fs_core.specs.CoreValues.{CoreValue, state_of}
use Rattle.fs_laws.proofs.journal.ViewOfTimeline.{run_starts}
use Rattle.fs_share.proofs.desk.Desk.again.Goals as goal

pub returns-clause-tree : goal.returns-clause-tree
returns-clause-tree g c = subst (λ (m : CoreValue). IsTree (start_tree m.start)) c.core.ensures (run_starts (state_of c.core.result.now) c.told.ensures.run)
