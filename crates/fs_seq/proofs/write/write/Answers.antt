use Rattle.std.proofs.Common.{ap, sym, subst, ◌∙◌, refl}
use Rattle.fs_names.specs.Limits.{file_limit, in_blocks}
use Rattle.fs_calls.specs.Forms as forms
use Rattle.fs_calls.specs.Outcomes.{resolution}
use Rattle.fs_calls.specs.declared.call.Call.TheVariants.{Write}
use Rattle.fs_calls.proofs.ListLemmas.{take_whole}
use Rattle.fs_seq_nodes.specs.code.Nodes.{graph}
use Rattle.fs_seq_nodes.specs.code.Slots.{walk, tree_of, HasForm}
use Rattle.fs_seq_nodes.proofs.NodeLemmas.{has_key, place_got}
use Rattle.fs_seq_nodes.proofs.SlabLemmas.{same_graph}
use Rattle.fs_seq.proofs.Looked.{lost_error, looking_fault}
use Rattle.fs_seq.proofs.Replies.{refused, IfOk-map, OnErr-map}
use Rattle.fs_seq.proofs.Written.{is_rewritten, write_needs}
use Rattle.fs_seq.proofs.write.write.Goals as goal

pub index_mut-requires : goal.index_mut-requires
index_mut-requires c = has_key c.args.nodes.now c.in-Ok.at (c.requires.forest.inside _ _ c.in-Ok.ensures)

pub write_node-requires : goal.write_node-requires
write_node-requires c = subst (HasForm (in_blocks c.args.limits)) (place_got c.args.nodes.now c.in-Ok.at _ c.index_mut.ensures.value) (c.requires.form.each c.in-Ok.at)

pub returns-in-Err-clause-given : goal.returns-in-Err-clause-given
returns-in-Err-clause-given c =
    let g = graph c.args.nodes.now in
    let p = c.args.path.now in
    let whole = take_whole p c.len.result c.len.ensures.len in
    refused c.args.limits g g (Write p c.args.off c.args.bytes.now) c.in-Err.errno refl c.requires.forest
    (looking_fault c.args.limits (Write p c.args.off c.args.bytes.now) (forms.Write (file_limit c.args.limits) c.args.off c.args.bytes.now) p refl (tree_of g) ∙ lost_error (tree_of g) (forms.Write (file_limit c.args.limits) c.args.off c.args.bytes.now) p c.in-Err.errno (ap (resolution (tree_of g)) (sym whole) ∙ c.in-Err.ensures))

pub returns-in-Ok-clause-given : goal.returns-in-Ok-clause-given
returns-in-Ok-clause-given c =
    let s = c.args.nodes.now in
    let p = c.args.path.now in
    let walked = ap (walk (graph s)) (sym (take_whole p c.len.result c.len.ensures.len)) ∙ c.in-Ok.ensures in
    IfOk-map c.write_node.result (λ r rewrites. is_rewritten c.args.limits s (Write p c.args.off c.args.bytes.now) (forms.Write (file_limit c.args.limits) c.args.off c.args.bytes.now) p refl c.in-Ok.at c.index_mut.result.now c.requires.forest walked c.index_mut.ensures.value c.write_node.new.node r rewrites) c.write_node.ensures.given

pub returns-in-Ok-clause-err : goal.returns-in-Ok-clause-err
returns-in-Ok-clause-err c = OnErr-map c.write_node.result (λ same. same_graph c.args.nodes.now c.in-Ok.at _ _ c.index_mut.ensures.value same) c.write_node.ensures.err

pub returns-in-Ok-clause-memory : goal.returns-in-Ok-clause-memory
returns-in-Ok-clause-memory c =
    let s = c.args.nodes.now in
    let p = c.args.path.now in
    let walked = ap (walk (graph s)) (sym (take_whole p c.len.result c.len.ensures.len)) ∙ c.in-Ok.ensures in
    OnErr-map c.write_node.result (λ needs. write_needs c.args.limits s p c.args.off c.args.bytes.now c.in-Ok.at c.index_mut.result.now c.requires.forest walked c.index_mut.ensures.value needs.0 needs.1) c.write_node.ensures.memory
