use Rattle.std.proofs.Common.{◌<◌, ap, sym, subst, ◌∙◌, length, is_some, remove}
use Rattle.std.specs.FinMap.{find, put, is_sorted}
use Rattle.fs_names.specs.Names.{name_cmp}
use Rattle.fs_seq_nodes.specs.code.Nodes.{place}
use Rattle.fs_seq_nodes.specs.code.Slots.{Dir}
use Rattle.fs_seq_nodes.proofs.NodeLemmas.{has_key, length-pairs}
use Rattle.fs_seq_nodes.proofs.SlabLemmas.{sets_value, links_read, dir_not_file}
use Rattle.fs_seq.proofs.rename.replace_link.Goals as goal

pub index_mut-requires : goal.index_mut-requires
index_mut-requires c = has_key c.args.nodes.now c.args.dir (ap is_some c.requires.directory)

pub replace-requires-clause-within : goal.replace-requires-clause-within
replace-requires-clause-within c =
    let same = links_read c.args.nodes.now c.args.dir _ c.in-Dir.links c.index_mut.ensures.value (ap place c.in-Dir.is) in
    subst (λ n. c.args.i < n) (ap length same ∙ length-pairs c.in-Dir.links) c.requires.within

pub replace-requires-clause-rising : goal.replace-requires-clause-rising
replace-requires-clause-rising c =
    let same = links_read c.args.nodes.now c.args.dir _ c.in-Dir.links c.index_mut.ensures.value (ap place c.in-Dir.is) in
    sym (ap (λ z. is_sorted name_cmp (remove z c.args.i)) same) ∙ c.requires.rising

pub replace-requires-clause-absent : goal.replace-requires-clause-absent
replace-requires-clause-absent c =
    let same = links_read c.args.nodes.now c.args.dir _ c.in-Dir.links c.index_mut.ensures.value (ap place c.in-Dir.is) in
    sym (ap (λ z. find name_cmp c.args.name (remove z c.args.i)) same) ∙ c.requires.absent

pub returns-in-Dir : goal.returns-in-Dir
returns-in-Dir c =
    let same = links_read c.args.nodes.now c.args.dir _ c.in-Dir.links c.index_mut.ensures.value (ap place c.in-Dir.is) in
    sets_value c.args.nodes.now c.args.dir _ _ _ c.index_mut.ensures.value
    (ap Dir c.replace.ensures ∙ ap (λ z. Dir (put name_cmp c.args.name c.args.node (remove z c.args.i))) (sym same))

pub returns-in-File : goal.returns-in-File
returns-in-File c = absurd (dir_not_file c.args.nodes.now c.args.dir _ _ _ c.requires.directory c.index_mut.ensures.value (ap place c.in-File.is))
