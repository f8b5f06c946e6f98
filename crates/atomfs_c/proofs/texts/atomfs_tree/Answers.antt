use Rattle.std.proofs.Common.{ℕ, List, Option, IsSomeAnd, sym, subst}
use Rattle.fs_core.specs.CoreValues.{CoreValue}
use Rattle.fs_nodes.specs.Stores.{graph_of}
use Rattle.fs_embed.specs.Texts.{IsTreeText}
use Rattle.atomfs_c.specs.Exports.{Tells}
use Rattle.atomfs_c.proofs.texts.atomfs_tree.Goals as goal

pub returns-in-Ok-clause-tree : goal.returns-in-Ok-clause-tree
returns-in-Ok-clause-tree c below =
    subst (λ (o : Option CoreValue). IsSomeAnd o (λ core. (x : List ℕ) × IsTreeText (graph_of core.store) x × Tells c.tell.result x c.tell.new.count c.args.out.now c.tell.new.out)) (sym c.in-Some.ensures.core)
    (c.in-Ok.text.items, (rw c.deref.ensures at c.in-Ok.ensures), (rw c.as_slice.ensures.value at c.tell.ensures.tells))
