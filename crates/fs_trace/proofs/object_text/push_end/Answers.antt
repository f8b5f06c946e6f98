use Rattle.std.proofs.Common.{List, ℕ, ◌++◌, ap, subst, ◌∙◌}
use Rattle.std.proofs.lemmas.Result.{on_ok_weaker}
use Rattle.fs_core.specs.CoreValues.{state_of}
use Rattle.fs_nodes.specs.Stores.{graph_of}
use Rattle.fs_script.specs.TreeText.{tree_text, AppendsTree}
use Rattle.fs_sched.specs.code.Counts.{AreCounts}
use Rattle.fs_trace.proofs.object_text.push_end.Goals as goal

pub returns-clause-ok : goal.returns-clause-ok
returns-clause-ok c =
    let none = c.new-tree.result.items in
    let tree = c.write_tree.new.text.items in
    let spelled = subst (λ store. AppendsTree (graph_of store) none tree) c.store.ensures c.in_ok-write_tree.ensures.ok in
    let timeline = (state_of c.args.core.now).timeline in
    let counted = subst (AreCounts c.counts_of.result) c.timeline.ensures c.counts_of.ensures.exact in
    let text = c.as_slice.ensures.value ∙ spelled.2 ∙ ap (λ (l : List ℕ). l ++ tree_text spelled.0) c.new-tree.ensures.items in
    on_ok_weaker c.push_counts.result (λ ends. (spelled.0, spelled.1, ends spelled.0 timeline text counted)) c.push_counts.ensures.ok
