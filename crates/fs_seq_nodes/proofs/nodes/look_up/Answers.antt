use Rattle.std.proofs.Common.{◌≡◌, ◌+◌, ◌-◌, ◌∙◌, ap, sym, Some, length, arith, refl}
use Rattle.fs_seq_nodes.specs.code.Nodes.{graph, pairs}
use Rattle.fs_seq_nodes.specs.code.Slots.{tree_of, walk}
use Rattle.fs_seq_nodes.proofs.NodeLemmas.{has_key, place_got, rising_got, take_parent}
use Rattle.fs_seq_nodes.proofs.Parents.{parents_lost, parents_found, is_taken, is_free}
use Rattle.fs_seq_nodes.proofs.nodes.look_up.Goals as goal

pub returns-in-Err : goal.returns-in-Err
returns-in-Err c =
    let named = c.requires.named in
    let len : (c.len-last.result - 1) + 1 ≡ length c.args.path.now = omega (arith, c.len-last.ensures.len) in
    parents_lost (tree_of (graph c.args.nodes.now)) c.args.path.now _ c.in-Err.errno len c.in-Err.ensures

pub index-requires : goal.index-requires
index-requires c = has_key c.args.nodes.now c.in-Ok.dir (c.requires.forest.inside _ _ c.in-Ok.ensures)

pub search-requires : goal.search-requires
search-requires c =
    let at = place_got c.args.nodes.now c.in-Ok.dir _ (c.index.ensures ∙ ap Some c.in-Dir.is) in
    rising_got (graph c.args.nodes.now) c.in-Ok.dir _ (pairs c.in-Dir.links) (c.requires.forest.rising c.in-Ok.dir) at refl

pub returns-in-File : goal.returns-in-File
returns-in-File c =
    let g = graph c.args.nodes.now in
    let p = c.args.path.now in
    let named = c.requires.named in
    let len : (c.len-last.result - 1) + 1 ≡ length p = omega (arith, c.len-last.ensures.len) in
    parents_found g p c.in-Ok.dir _ c.requires.forest (ap (walk g) (sym (take_parent p _ len)) ∙ c.in-Ok.ensures) (place_got c.args.nodes.now c.in-Ok.dir _ (c.index.ensures ∙ ap Some c.in-File.is)) ∙ ap Some (sym c.step_error.ensures)

pub returns-in-Ok-search : goal.returns-in-Ok-search
returns-in-Ok-search c =
    let named = c.requires.named in
    let len : (c.len-last.result - 1) + 1 ≡ length c.args.path.now = omega (arith, c.len-last.ensures.len) in
    let at = place_got c.args.nodes.now c.in-Ok.dir _ (c.index.ensures ∙ ap Some c.in-Dir.is) in
    is_taken (graph c.args.nodes.now) c.args.path.now _ c.in-Ok.dir c.in-Ok-search.i c.name.result.now c.in-Dir.links c.in-Ok-search.node len c.name.ensures c.in-Ok.ensures at c.in-Ok-search.ensures.0 c.in-Ok-search.ensures.1

pub returns-in-Err-search : goal.returns-in-Err-search
returns-in-Err-search c =
    let named = c.requires.named in
    let len : (c.len-last.result - 1) + 1 ≡ length c.args.path.now = omega (arith, c.len-last.ensures.len) in
    let at = place_got c.args.nodes.now c.in-Ok.dir _ (c.index.ensures ∙ ap Some c.in-Dir.is) in
    is_free (graph c.args.nodes.now) c.args.path.now _ c.in-Ok.dir c.in-Err-search.i c.len.result c.name.result.now c.in-Dir.links len c.name.ensures c.in-Ok.ensures at c.in-Err-search.ensures c.len.ensures
