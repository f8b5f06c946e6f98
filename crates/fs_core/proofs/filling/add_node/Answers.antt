use Rattle.std.proofs.Common.{◌≡◌, ℕ, Option, Some, IsTrue, sym, ◌∙◌, subst}
use Rattle.fs_names.specs.Shapes.{is_dir}
use Rattle.fs_nodes.specs.Stores.{graph_of}
use Rattle.fs_core.specs.code.Filling.{shape_of_row}
use Rattle.fs_core.proofs.Added.{leads_nowhere}
use Rattle.fs_core.proofs.filling.add_node.Goals as goal

pub link-requires-clause-apart : goal.link-requires-clause-apart
link-requires-clause-apart c =
    let p = c.requires.can.place c.in-Some.above.now c.in-Some.name.now (sym c.deref.ensures.value ∙ c.in-Some.ensures.cases.0) in
    let same : ◌≡◌ {A = Option ℕ} (Some p.0) (Some c.unwrap-dir.result) = sym p.1 ∙ sym c.reached.ensures ∙ c.unwrap-dir.ensures in
    let there : IsTrue (is_dir ((graph_of c.args.store.now).shape c.unwrap-dir.result)) = subst (λ (n : ℕ). IsTrue (is_dir ((graph_of c.args.store.now).shape n))) (cc) p.2 in
    leads_nowhere (graph_of c.args.store.now) (graph_of c.new_node.new.store) c.in_ok-node.node c.unwrap-dir.result (shape_of_row c.args.row.now) c.requires.can.is_graph c.in_ok-node.ensures.graph c.in_ok-node.ensures.free there
