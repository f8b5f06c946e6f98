use Rattle.std.proofs.Common.{◌<◌, ap, sym, subst, ◌∙◌, length, is_some, remove}
use Rattle.fs_seq_nodes.specs.code.Nodes.{pairs, place}
use Rattle.fs_seq_nodes.specs.code.Slots.{Dir}
use Rattle.fs_seq_nodes.proofs.NodeLemmas.{has_key, length-pairs}
use Rattle.fs_seq_nodes.proofs.SlabLemmas.{sets_value, pairs-remove, links_read, dir_not_file}
use Rattle.fs_seq_nodes.proofs.nodes.remove_link.Goals as goal

pub index_mut-requires : goal.index_mut-requires
index_mut-requires c = has_key c.args.nodes.now c.args.dir (ap is_some c.requires.directory)

pub remove-requires : goal.remove-requires
remove-requires c =
    let same = links_read c.args.nodes.now c.args.dir _ c.in-Dir.links c.index_mut.ensures.value (ap place c.in-Dir.is) in
    subst (λ n. c.args.i < n) (ap length same ∙ length-pairs c.in-Dir.links) c.requires.within

pub returns-in-Dir : goal.returns-in-Dir
returns-in-Dir c =
    let same = links_read c.args.nodes.now c.args.dir _ c.in-Dir.links c.index_mut.ensures.value (ap place c.in-Dir.is) in
    sets_value c.args.nodes.now c.args.dir _ _ _ c.index_mut.ensures.value
    (ap (λ z. Dir (pairs z)) c.remove.ensures ∙ ap Dir (pairs-remove c.in-Dir.links c.args.i) ∙ ap (λ z. Dir (remove z c.args.i)) (sym same))

pub returns-in-File : goal.returns-in-File
returns-in-File c = absurd (dir_not_file c.args.nodes.now c.args.dir _ _ _ c.requires.directory c.index_mut.ensures.value (ap place c.in-File.is))
