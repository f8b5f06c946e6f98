use Rattle.std.proofs.Common.{◌≡◌, Some, Less, sym, ap, ◌∙◌, length, refl}
use Rattle.std.specs.Prelude.{nat_le}
use Rattle.fs_names.specs.Keys.{key_cmp}
use Rattle.fs_seq.specs.Rows.{key_of, last_key}
use Rattle.fs_seq_nodes.specs.code.Nodes.{graph, pairs}
use Rattle.fs_seq_nodes.specs.code.Slots.{tree_of}
use Rattle.fs_seq_nodes.proofs.NodeLemmas.{has_key, place_got, rising_got, child_got, length-pairs}
use Rattle.fs_seq.proofs.Appended.{fails_at_root, fails_lost, fails_in_file, fails_full, not_there, is_place, stands_to, less_by_index}
use Rattle.fs_seq.proofs.from_rows.place_of.Goals as goal

pub returns-in_default : goal.returns-in_default
returns-in_default c = fails_at_root c.args.limits (graph c.args.nodes.now) c.requires.forest c.args.row.now (ap length (sym c.deref.ensures.value) ∙ c.in_default.ensures.cases)

pub returns-in_default-reached : goal.returns-in_default-reached
returns-in_default-reached c =
    fails_lost c.args.limits (graph c.args.nodes.now) c.requires.forest c.args.row.now c.in-Some.parent.now c.in-Some.name.now (sym c.deref.ensures.value ∙ c.in-Some.ensures.cases.0) (sym c.reached.ensures ∙ c.in_default-reached.is)

pub index-requires : goal.index-requires
index-requires c = has_key c.args.nodes.now c.in-Some-reached.dir (c.requires.forest.inside _ _ (sym c.in-Some-reached.ensures))

pub search-requires : goal.search-requires
search-requires c =
    let at = place_got c.args.nodes.now c.in-Some-reached.dir _ (c.index.ensures ∙ ap Some c.in-Dir.is) in
    rising_got (graph c.args.nodes.now) c.in-Some-reached.dir _ (pairs c.in-Dir.links) (c.requires.forest.rising c.in-Some-reached.dir) at refl

pub returns-in-File : goal.returns-in-File
returns-in-File c =
    fails_in_file c.args.limits (graph c.args.nodes.now) c.requires.forest c.args.row.now c.in-Some.parent.now c.in-Some.name.now (sym c.deref.ensures.value ∙ c.in-Some.ensures.cases.0) c.in-Some-reached.dir (sym c.in-Some-reached.ensures) _
    (place_got c.args.nodes.now c.in-Some-reached.dir _ (c.index.ensures ∙ ap Some c.in-File.is))

pub returns-then-is_full : goal.returns-then-is_full
returns-then-is_full c =
    fails_full c.args.limits (graph c.args.nodes.now) c.requires.forest c.args.row.now c.in-Some.parent.now c.in-Some.name.now (sym c.deref.ensures.value ∙ c.in-Some.ensures.cases.0) c.in-Some-reached.dir (sym c.in-Some-reached.ensures) (pairs c.in-Dir.links)
    (place_got c.args.nodes.now c.in-Some-reached.dir _ (c.index.ensures ∙ ap Some c.in-Dir.is))
    ((λ i. nat_le (sym c.entries.ensures i) ((length-pairs c.in-Dir.links ∙ sym c.len.ensures) i)) ∙ sym c.is_full.ensures ∙ c.if-is_full.true)

pub returns-in-Ok : goal.returns-in-Ok
returns-in-Ok c =
    let g = graph c.args.nodes.now in
    let less : key_cmp (last_key (tree_of g)) (key_of c.args.row.now) ≡ Less = ap (λ k. key_cmp k (key_of c.args.row.now)) c.requires.last ∙ (λ j. key_cmp (sym c.deref-2.ensures.value j) (sym c.deref-3.ensures.value j)) ∙ sym c.compare_keys.ensures ∙ less_by_index c.compare_keys.result c.ne.result c.ne.ensures c.if-ne.false in
    let at = place_got c.args.nodes.now c.in-Some-reached.dir _ (c.index.ensures ∙ ap Some c.in-Dir.is) in
    let to = stands_to (pairs c.in-Dir.links) c.in-Some.name.now _ c.in-Ok.ensures.0 in
    absurd (not_there c.args.limits g c.requires.forest c.args.row.now c.in-Some.parent.now c.in-Some.name.now (sym c.deref.ensures.value ∙ c.in-Some.ensures.cases.0) c.in-Some-reached.dir (sym c.in-Some-reached.ensures) to.0 less
    (child_got g c.in-Some-reached.dir c.in-Some.name.now _ at ∙ to.1))

pub returns-in-Err : goal.returns-in-Err
returns-in-Err c =
    let g = graph c.args.nodes.now in
    let less : key_cmp (last_key (tree_of g)) (key_of c.args.row.now) ≡ Less = ap (λ k. key_cmp k (key_of c.args.row.now)) c.requires.last ∙ (λ j. key_cmp (sym c.deref-2.ensures.value j) (sym c.deref-3.ensures.value j)) ∙ sym c.compare_keys.ensures ∙ less_by_index c.compare_keys.result c.ne.result c.ne.ensures c.if-ne.false in
    is_place c.args.limits g c.requires.forest c.args.row.now c.in-Some.parent.now c.in-Some.name.now (sym c.deref.ensures.value ∙ c.in-Some.ensures.cases.0) c.in-Some-reached.dir (sym c.in-Some-reached.ensures) (pairs c.in-Dir.links) c.in-Err.i less
    (place_got c.args.nodes.now c.in-Some-reached.dir _ (c.index.ensures ∙ ap Some c.in-Dir.is))
    ((λ i. nat_le (sym c.entries.ensures i) ((length-pairs c.in-Dir.links ∙ sym c.len.ensures) i)) ∙ sym c.is_full.ensures ∙ c.if-is_full.false)
    (sym c.may_have.ensures ∙ c.if-not-may_have.false)
    c.in-Err.ensures
