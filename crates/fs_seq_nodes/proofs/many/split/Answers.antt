use Rattle.std.proofs.Common.{refl, ap, ◌∙◌, arith, length}
use Rattle.fs_seq_nodes.proofs.ListEdits.{got, split_same, split_some}
use Rattle.fs_seq_nodes.proofs.many.split.Goals as goal

pub returns-then-at-half-clause-same : goal.returns-then-at-half-clause-same
returns-then-at-half-clause-same c =
    split_same c.args.lists.now.items _ c.insert_list.new.lists.items c.args.i c.first_part-half.result c.index_mut.result.now c.split.new.self c.split.new.next c.requires.list c.index_mut.ensures.value c.split.ensures.first c.split.ensures.second refl c.insert_list.ensures

pub returns-then-at-half-clause-lists : goal.returns-then-at-half-clause-lists
returns-then-at-half-clause-lists c =
    let full = ap length (got c.args.lists.now.items c.args.i c.index_mut.result.now c.requires.list c.index_mut.ensures.value) ∙ c.requires.full in
    let most = c.first_part-half.ensures.most in
    split_some c.args.lists.now.items _ c.insert_list.new.lists.items c.args.i c.first_part-half.result c.index_mut.result.now c.split.new.self c.split.new.next c.requires.lists c.first_part-half.ensures.some (omega (arith, full, most)) c.split.ensures.first c.split.ensures.second refl c.insert_list.ensures

pub returns-else-at-half-clause-same : goal.returns-else-at-half-clause-same
returns-else-at-half-clause-same c =
    split_same c.args.lists.now.items _ c.insert_list.new.lists.items c.args.i c.first_part-half.result c.index_mut.result.now c.split.new.self c.split.new.next c.requires.list c.index_mut.ensures.value c.split.ensures.first c.split.ensures.second refl c.insert_list.ensures

pub returns-else-at-half-clause-lists : goal.returns-else-at-half-clause-lists
returns-else-at-half-clause-lists c =
    let full = ap length (got c.args.lists.now.items c.args.i c.index_mut.result.now c.requires.list c.index_mut.ensures.value) ∙ c.requires.full in
    let most = c.first_part-half.ensures.most in
    split_some c.args.lists.now.items _ c.insert_list.new.lists.items c.args.i c.first_part-half.result c.index_mut.result.now c.split.new.self c.split.new.next c.requires.lists c.first_part-half.ensures.some (omega (arith, full, most)) c.split.ensures.first c.split.ensures.second refl c.insert_list.ensures
