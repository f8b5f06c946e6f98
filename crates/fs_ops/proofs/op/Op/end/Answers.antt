use Rattle.std.proofs.Common.{ap, sym, subst, Option, ℕ}
use Rattle.fs_nodes.specs.Stores.{graph_of}
use Rattle.fs_machine.specs.OpValues.{SpareIf}
use Rattle.fs_ops.proofs.op.Op.end.Goals as goal

pub give_back-requires : goal.give_back-requires
give_back-requires c = subst (λ (o : Option ℕ). SpareIf (graph_of c.args.store.now) o) (sym (ap (λ w. w.reserved) c.self.view_is)) c.requires.spare
