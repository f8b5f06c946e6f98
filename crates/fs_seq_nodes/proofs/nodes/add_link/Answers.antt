use Rattle.std.proofs.Common.{◌≡◌, ◌≤◌, ap, sym, subst, ◌∙◌, length, is_some, insert}
use Rattle.std.proofs.lemmas.Result.{IfOk-weaker, IfErr-weaker}
use Rattle.fs_seq_nodes.specs.code.Nodes.{pairs, place, pair}
use Rattle.fs_seq_nodes.specs.code.Slots.{Dir}
use Rattle.fs_seq_nodes.proofs.NodeLemmas.{has_key, length-pairs}
use Rattle.fs_seq_nodes.proofs.SlabLemmas.{sets_value, same_graph, pairs-insert, links_read, dir_not_file}
use Rattle.fs_seq_nodes.proofs.nodes.add_link.Goals as goal

pub index_mut-requires : goal.index_mut-requires
index_mut-requires c = has_key c.args.nodes.now c.args.dir (ap is_some c.requires.directory)

pub insert-requires : goal.insert-requires
insert-requires c =
    let same = links_read c.args.nodes.now c.args.dir _ c.in-Dir.links c.index_mut.ensures.value (ap place c.in-Dir.is) in
    subst (λ n. c.args.i ≤ n) (ap length same ∙ length-pairs c.in-Dir.links) c.requires.within

pub returns-in-Dir-clause-ok : goal.returns-in-Dir-clause-ok
returns-in-Dir-clause-ok c =
    let same = links_read c.args.nodes.now c.args.dir _ c.in-Dir.links c.index_mut.ensures.value (ap place c.in-Dir.is) in
    IfOk-weaker c.insert.result (λ _. c.insert.new.self ≡ insert c.in-Dir.links c.args.i c.args.link) _
    (λ _ items. sets_value c.args.nodes.now c.args.dir _ _ _ c.index_mut.ensures.value
    (ap (λ z. Dir (pairs z)) items ∙ ap Dir (pairs-insert c.in-Dir.links c.args.i c.args.link) ∙ ap (λ z. Dir (insert z c.args.i (pair c.args.link))) (sym same)))
    c.insert.ensures.ok

pub returns-in-Dir-clause-err : goal.returns-in-Dir-clause-err
returns-in-Dir-clause-err c =
    IfErr-weaker c.insert.result (λ _. c.insert.new.self ≡ c.in-Dir.links) _
    (λ _ items. same_graph c.args.nodes.now c.args.dir _ _ c.index_mut.ensures.value (ap (λ z. Dir (pairs z)) items ∙ sym (ap place c.in-Dir.is)))
    c.insert.ensures.err

pub returns-in-File-clause-ok : goal.returns-in-File-clause-ok
returns-in-File-clause-ok c = absurd (dir_not_file c.args.nodes.now c.args.dir _ _ _ c.requires.directory c.index_mut.ensures.value (ap place c.in-File.is))
