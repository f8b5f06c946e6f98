use Rattle.std.proofs.Common.{Some, sym, ap, ◌∙◌}
use Rattle.fs_nodes_places.specs.declared.node.Content.{Content}
use Rattle.fs_nodes_places.specs.Stores.{graph_of, limit_of, room}
use Rattle.fs_nodes_places.proofs.FormLemmas.{file_form}
use Rattle.fs_nodes_places.proofs.plain.Store.content.Goals as goal

pub as_slice-requires : goal.as_slice-requires
unfolding graph_of limit_of room
as_slice-requires c =
    file_form c.self.inside.in_blocks c.self.inside.places.items c.args.file c.in-Some-File.file c.self.invariant.1
    ((rw c.deref.ensures.value at (sym c.in-Some-File.ensures)) ∙ ap (λ (content : Content). Some content) c.in-Some-File.field-0-is)
    ∙ (rw (← c.self.view_is) at c.requires)
