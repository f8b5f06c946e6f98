use Rattle.std.proofs.Common.{ℕ, List, ap, ap₂, ◌∙◌}
use Rattle.fs_nodes.specs.Graphs.{Graph, content_in}
use Rattle.fs_nodes.specs.Seen.{Seen}
use Rattle.fs_nodes.specs.Stores.{graph_of}
use Rattle.fs_calls.specs.Rows.{written}
use Rattle.fs_ops_effects.proofs.write.put_into.Goals as goal

pub returns : goal.returns
returns c =
    let new = c.put_over.ensures ∙ ap (λ (old : List ℕ). written old c.args.off c.args.bytes.now) c.taken_out-content.ensures.bytes in
    c.swap_content.ensures.change
    ∙ ap₂ (λ (s : Seen) (g : Graph). record s { graph = g }) c.taken_out-content.ensures.rest
    (c.taken_out-content.ensures.graph _ ∙ ap (λ (b : List ℕ). content_in c.args.file b (graph_of c.args.store.now)) new)
