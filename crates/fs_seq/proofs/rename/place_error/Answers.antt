use Rattle.std.proofs.Common.{sym, ◌∙◌}
use Rattle.fs_seq_nodes.specs.code.Nodes.{graph}
use Rattle.fs_seq_nodes.specs.code.Slots.{shape_at, place_at}
use Rattle.fs_seq_nodes.proofs.NodeLemmas.{key_there}
use Rattle.fs_seq.proofs.RenameFaults.{there_not_missing, place_row}
use Rattle.fs_seq.proofs.rename.place_error.Goals as goal

pub returns : goal.returns
returns c s is =
    let g = graph c.args.nodes.now in
    c.error.ensures (shape_at g c.args.node) s (sym c.sight_of.ensures) is
    ∙ place_row (shape_at g c.args.node) s c.args.has_room (there_not_missing (place_at g c.args.node) (key_there c.args.nodes.now c.args.node c.requires.node))
