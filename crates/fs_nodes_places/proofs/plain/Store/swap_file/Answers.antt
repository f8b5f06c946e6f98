use Rattle.std.proofs.Common.{◌≡◌, set, ap, ◌∙◌, length}
use Rattle.fs_blocks.specs.Files.{FileValue}
use Rattle.fs_calls.specs.Graphs.{content_in}
use Rattle.fs_nodes_places.specs.Stores.{graph_in, graph_of, limit_of, room}
use Rattle.fs_nodes_places.proofs.PlainEditLemmas.{Makes, swap_edit, swap_old}
use Rattle.fs_nodes_places.proofs.FormLemmas.{form_swap, form_old}
use Rattle.std.proofs.lemmas.List.{length-set}
use Rattle.fs_nodes_places.proofs.RealLemmas.{seen_by}
use Rattle.fs_nodes_places.proofs.plain.Store.swap_file.Goals as goal

made : (c : goal.After-self-1) → Makes c.self.inside.limit (set c.self.inside.places.items c.get.result c.swap_file.new.place) (content_in c.args.node c.args.file.bytes (graph_in c.self.inside.places.items))
unfolding graph_of limit_of room
made c = swap_edit c.self.inside.limit c.self.inside.places.items c.args.node c.get.result c.index_mut.result.now c.swap_file.new.place c.args.file c.self.invariant.0
    (rw (← c.self.view_is) at c.requires.node) c.get.ensures c.index_mut.ensures.value c.swap_file.ensures.new

form : (c : goal.After-self-1) → c.args.file.in_blocks ≡ c.self.inside.in_blocks
unfolding graph_of limit_of room
form c = rw (← c.self.view_is) at c.requires.form

pub invariant_of-self : goal.invariant_of-self
unfolding graph_of limit_of room
invariant_of-self c = ((made c).1, form_swap c.self.inside.in_blocks c.self.inside.places.items c.get.result c.index_mut.result.now c.swap_file.new.place c.args.file c.self.invariant.1 c.index_mut.ensures.value c.swap_file.ensures.new (form c))

pub returns-clause-change : goal.returns-clause-change
unfolding graph_of limit_of room
returns-clause-change c = rw (← c.self.view_is) (seen_by c.self.inside.limit (length c.self.inside.places.items) (set c.self.inside.places.items c.get.result c.swap_file.new.place) (content_in c.args.node c.args.file.bytes (graph_in c.self.inside.places.items)) (made c).0 (length-set c.self.inside.places.items c.get.result c.swap_file.new.place))

pub returns-clause-bytes : goal.returns-clause-bytes
unfolding graph_of limit_of room
returns-clause-bytes c = rw (← c.self.view_is) (ap (λ (f : FileValue). f.bytes) c.swap_file.ensures.old ∙ swap_old c.self.inside.places.items c.args.node c.get.result c.index_mut.result.now c.args.file (rw (← c.self.view_is) at c.requires.node) c.get.ensures c.index_mut.ensures.value)

pub returns-clause-form : goal.returns-clause-form
unfolding graph_of limit_of room
returns-clause-form c = rw (← c.self.view_is) (ap (λ (f : FileValue). f.in_blocks) c.swap_file.ensures.old ∙ form_old c.self.inside.in_blocks c.self.inside.places.items c.args.node c.get.result c.index_mut.result.now c.args.file c.self.invariant.1 (rw (← c.self.view_is) at c.requires.node) c.get.ensures c.index_mut.ensures.value (form c))
