use Rattle.std.proofs.Common.{ap, sym, ◌∙◌, Some}
use Rattle.fs_seq_nodes.specs.code.Nodes.{graph, place}
use Rattle.fs_seq_nodes.specs.code.Slots.{walk, shape_of}
use Rattle.fs_calls.proofs.ListLemmas.{take_whole}
use Rattle.fs_seq_nodes.proofs.NodeLemmas.{has_key, place_got}
use Rattle.fs_seq.proofs.Looked.{error_there, is_found}
use Rattle.fs_seq.proofs.queries.find.Goals as goal

pub index-node-requires : goal.index-node-requires
index-node-requires c = has_key c.args.nodes.now c.in-Ok.at (c.requires.inside _ _ c.in-Ok.ensures)

pub returns-in-Some : goal.returns-in-Some
returns-in-Some c =
    let g = graph c.args.nodes.now in
    let p = c.args.path.now in
    let walked = ap (walk g) (sym (take_whole p c.len.result c.len.ensures.len)) ∙ c.in-Ok.ensures in
    error_there g _ p c.in-Ok.at _ c.requires walked (place_got c.args.nodes.now c.in-Ok.at _ c.index-node.ensures)
    ∙ sym (c.error.ensures (shape_of (Some (place c.index-node.result.now))) (sym c.sight.ensures)) ∙ c.in-Some.is

pub returns-in-None : goal.returns-in-None
returns-in-None c =
    let g = graph c.args.nodes.now in
    let p = c.args.path.now in
    let walked = ap (walk g) (sym (take_whole p c.len.result c.len.ensures.len)) ∙ c.in-Ok.ensures in
    is_found g _ p c.in-Ok.at _ c.requires walked (place_got c.args.nodes.now c.in-Ok.at _ c.index-node.ensures)
    (sym (c.error.ensures (shape_of (Some (place c.index-node.result.now))) (sym c.sight.ensures)) ∙ c.in-None.is)
