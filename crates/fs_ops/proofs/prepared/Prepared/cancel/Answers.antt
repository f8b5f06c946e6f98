use Rattle.std.proofs.Common.{sym, subst, Option, ℕ}
use Rattle.fs_nodes.specs.Stores.{graph_of}
use Rattle.fs_machine.specs.OpValues.{SpareIf}
use Rattle.fs_ops.proofs.prepared.Prepared.cancel.Goals as goal

pub give_back-requires : goal.give_back-requires
give_back-requires c = subst (λ (o : Option ℕ). SpareIf (graph_of c.args.store.now) o) (sym c.reserved.ensures) c.requires
