use Rattle.std.proofs.Common.{List, min, take, refl, sym, ap, ◌∙◌}
use Rattle.fs_names.specs.Names.{Name, names_above}
use Rattle.fs_names.specs.Keys.{last_of}
use Rattle.fs_names.specs.declared.limits.TheConstants.{LIST_LIMIT}
use Rattle.fs_calls.specs.Forms as forms
use Rattle.fs_calls.specs.Sights.{names_of, has_any}
use Rattle.fs_calls.specs.declared.call.Call.TheVariants.{ListAfter}
use Rattle.fs_calls.specs.declared.reply.Reply.TheVariants as replies
use Rattle.fs_seq_nodes.specs.code.Nodes.{graph, place}
use Rattle.fs_seq_nodes.specs.code.Slots.{tree_of}
use Rattle.fs_seq.proofs.Looked.{looking_fault, failed_reply, found_reply, link_names}
use Rattle.fs_seq.proofs.Replies.{needs, on_err}
use Rattle.fs_seq.proofs.queries.list.Goals as goal

pub returns-in-Err-clause-reply : goal.returns-in-Err-clause-reply
returns-in-Err-clause-reply c limits =
    let p = c.args.path.now in
    failed_reply limits (ListAfter c.args.count p c.args.after.now) (forms.ListAfter c.args.after.now c.args.count) p refl (tree_of (graph c.args.nodes.now)) c.in-Err.errno c.in-Err.ensures

pub returns-in_ok-names-in-Ok-clause-reply : goal.returns-in_ok-names-in-Ok-clause-reply
returns-in_ok-names-in-Ok-clause-reply c limits =
    let p = c.args.path.now in
    let told = λ (names : List Name). take (min c.args.count LIST_LIMIT) (names_above (last_of c.args.after.now) names) in
    ap replies.Names (c.in_ok-names-in-Ok.ensures.ok ∙ c.piece-from.ensures.names ∙ ap told (link_names (place c.in-Ok.node.now)))
    ∙ found_reply limits (ListAfter c.args.count p c.args.after.now) (forms.ListAfter c.args.after.now c.args.count) p refl (tree_of (graph c.args.nodes.now)) _ c.in-Ok.ensures

pub returns-in_err-names-in-Ok-clause-memory : goal.returns-in_err-names-in-Ok-clause-memory
returns-in_err-names-in-Ok-clause-memory c =
    let p = c.args.path.now in
    let t = tree_of (graph c.args.nodes.now) in
    let told = λ (names : List Name). take (min c.args.count LIST_LIMIT) (names_above (last_of c.args.after.now) names) in
    on_err c.from_residual.result (λ limits. needs limits t (ListAfter c.args.count p c.args.after.now)
    (looking_fault limits (ListAfter c.args.count p c.args.after.now) (forms.ListAfter c.args.after.now c.args.count) p refl t ∙ c.in-Ok.ensures.sound)
    (ap has_any (ap told (ap names_of c.in-Ok.ensures.shape ∙ sym (link_names (place c.in-Ok.node.now))) ∙ sym c.piece-from.ensures.names) ∙ c.in_err-names-in-Ok.ensures.memory))
