use Rattle.std.proofs.Common.{◌≡◌, ℕ, List, ap, ap₂, ◌∙◌, arith}
use Rattle.std.proofs.lemmas.Grind.{common_steps}
use Rattle.fs_names.specs.Shapes.{bytes_of}
use Rattle.fs_nodes.specs.Graphs.{Graph, content_in}
use Rattle.fs_nodes.specs.Seen.{Seen}
use Rattle.fs_nodes.specs.Stores.{graph_of, shape}
use Rattle.fs_calls.specs.Rows.{resized}
use Rattle.fs_ops_effects.proofs.write.resize.Goals as goal

pub returns : goal.returns
returns c =
    let new : c.resize-room_was_made.new.self.items ≡ resized (bytes_of (shape c.args.store.now c.args.file)) c.args.size = grind (arith, common_steps) in
    c.swap_content.ensures.change
    ∙ ap₂ (λ (s : Seen) (g : Graph). record s { graph = g }) c.taken_out-content.ensures.rest
    (c.taken_out-content.ensures.graph _ ∙ ap (λ (b : List ℕ). content_in c.args.file b (graph_of c.args.store.now)) new)
