use Rattle.std.proofs.Common.{refl, subst}
use Rattle.fs_seq_nodes.specs.code.Lists.{IsIn}
use Rattle.fs_seq_nodes.proofs.ListEdits.{part_from}
use Rattle.fs_seq_nodes.proofs.many.Many.from.Goals as goal

pub returns-clause-part : goal.returns-clause-part
returns-clause-part c =
    let is = subst (λ z. IsIn z c.args.place c.find-i.result.0 c.find-i.result.1) c.deref.ensures.value c.find-i.ensures in
    let told = part_from c.self.inside.lists.items c.args.place c.find-i.result.0 c.find-i.result.1 c.index.result.now c.as_slice.result.now _ is c.index.ensures c.as_slice.ensures.links refl in
    rw c.self.view_is at told
