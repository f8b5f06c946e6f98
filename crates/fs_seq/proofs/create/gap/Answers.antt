use Rattle.std.proofs.Common.{◌<◌, length, Some, subst, sym, ap, ◌∙◌, arith}
use Rattle.fs_seq_nodes.specs.code.Nodes.{graph, shape_there, full_there}
use Rattle.fs_seq_nodes.specs.code.Slots.{tree_of}
use Rattle.fs_seq.specs.code.Effects.{IsGap}
use Rattle.fs_seq.proofs.Spots.{dir_there, full_is, making_root, making_lost, making_spot, gap_there, spot_kept}
use Rattle.fs_seq.proofs.create.gap.Goals as goal

pub returns-then-len-eq0 : goal.returns-then-len-eq0
returns-then-len-eq0 c = making_root c.args.limits (tree_of (graph c.args.nodes.now)) c.args.path.now (sym c.len.ensures.len ∙ c.if-len-eq0.true) ∙ ap Some (sym (c.root_error.ensures c.args.limits))

pub returns-in-Err : goal.returns-in-Err
returns-in-Err c =
    let named : 0 < length c.args.path.now = omega (arith, c.len.ensures.len, c.if-len-eq0.false) in
    making_lost c.args.limits (tree_of (graph c.args.nodes.now)) c.args.path.now c.in-Err.errno named c.in-Err.ensures

pub sight-requires : goal.sight-requires
sight-requires c =
    let named : 0 < length c.args.path.now = omega (arith, c.len.ensures.len, c.if-len-eq0.false) in
    record { there = spot_kept c.args.nodes.now c.requires c.args.path.now named c.in-Ok.spot c.in-Ok.ensures }

pub returns-in-Some : goal.returns-in-Some
returns-in-Some c =
    let g = graph c.args.nodes.now in
    let named : 0 < length c.args.path.now = omega (arith, c.len.ensures.len, c.if-len-eq0.false) in
    making_spot c.args.limits g c.args.path.now c.in-Ok.spot c.requires named c.in-Ok.ensures
    ∙ sym (c.error.ensures c.args.limits (dir_there g c.in-Ok.spot) (shape_there g c.in-Ok.spot) (c.is_full-full.ensures ∙ ap (λ most. full_there most c.in-Ok.spot) c.entries.ensures ∙ full_is c.args.limits g c.args.path.now c.in-Ok.spot c.in-Ok.ensures) (sym c.sight.ensures)) ∙ c.in-Some.is

pub returns-in-None : goal.returns-in-None
returns-in-None c =
    let g = graph c.args.nodes.now in
    let p = c.args.path.now in
    let named : 0 < length p = omega (arith, c.len.ensures.len, c.if-len-eq0.false) in
    subst (λ at. IsGap c.args.limits g p at.0 at.1) (sym c.place.ensures)
    (gap_there c.args.limits g p c.in-Ok.spot c.requires named c.in-Ok.ensures
    (making_spot c.args.limits g p c.in-Ok.spot c.requires named c.in-Ok.ensures
    ∙ sym (c.error.ensures c.args.limits (dir_there g c.in-Ok.spot) (shape_there g c.in-Ok.spot) (c.is_full-full.ensures ∙ ap (λ most. full_there most c.in-Ok.spot) c.entries.ensures ∙ full_is c.args.limits g c.args.path.now c.in-Ok.spot c.in-Ok.ensures) (sym c.sight.ensures)) ∙ c.in-None.is))
