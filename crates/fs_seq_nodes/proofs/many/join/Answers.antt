use Rattle.std.proofs.Common.{◌≡◌, ◌+◌, ◌<◌, suc, ap, ◌∙◌, arith, length, get_or}
use Rattle.std.specs.Prelude.{remove}
use Rattle.fs_seq_nodes.proofs.ListEdits.{joined_pair, paired_some}
use Rattle.fs_seq_nodes.proofs.many.join.Goals as goal

pub returns-clause-same : goal.returns-clause-same
returns-clause-same c =
    let ls = c.args.lists.now.items in
    let one : c.args.i + 1 ≡ suc c.args.i = omega arith in
    let h : suc c.args.i < length ls = omega arith in
    joined_pair ls c.remove-second.new.self.items c.args.i c.index_mut.result.now c.append.new.self c.remove-second.result h
    (c.remove-second.ensures.items ∙ ap (remove ls) one) (c.remove-second.ensures.value ∙ ap (λ n. get_or ls n c.remove-second.result) one) c.index_mut.ensures.value c.append.ensures

pub returns-clause-lists : goal.returns-clause-lists
returns-clause-lists c =
    let ls = c.args.lists.now.items in
    let one : c.args.i + 1 ≡ suc c.args.i = omega arith in
    let h : suc c.args.i < length ls = omega arith in
    paired_some ls c.remove-second.new.self.items c.args.i c.index_mut.result.now c.append.new.self c.remove-second.result c.requires.lists h
    (c.remove-second.ensures.items ∙ ap (remove ls) one) (c.remove-second.ensures.value ∙ ap (λ n. get_or ls n c.remove-second.result) one) c.append.ensures
