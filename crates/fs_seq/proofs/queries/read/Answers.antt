use Rattle.std.proofs.Common.{Some, refl, ap, sym, ◌∙◌, min, take, drop}
use Rattle.fs_names.specs.Limits.{read_limit}
use Rattle.fs_calls.specs.Forms as forms
use Rattle.fs_calls.specs.Sights.{bytes_of, has_any}
use Rattle.fs_calls.specs.declared.call.Call.TheVariants.{Read}
use Rattle.fs_calls.specs.declared.reply.Reply.TheVariants as replies
use Rattle.fs_seq_nodes.specs.code.Nodes.{graph, place}
use Rattle.fs_seq_nodes.specs.code.Slots.{tree_of, shape_of}
use Rattle.fs_seq.proofs.Looked.{looking_fault, failed_reply, found_reply}
use Rattle.fs_seq.proofs.Replies.{needs, on_err}
use Rattle.fs_seq.proofs.queries.read.Goals as goal

pub returns-in-Err-clause-reply : goal.returns-in-Err-clause-reply
returns-in-Err-clause-reply c =
    let p = c.args.path.now in
    failed_reply c.args.limits (Read p c.args.off c.args.count) (forms.Read (read_limit c.args.limits) c.args.off c.args.count) p refl (tree_of (graph c.args.nodes.now)) c.in-Err.errno c.in-Err.ensures

pub returns-in_ok-copy-in-Ok-clause-reply : goal.returns-in_ok-copy-in-Ok-clause-reply
returns-in_ok-copy-in-Ok-clause-reply c =
    let p = c.args.path.now in
    let bytes = drop c.args.off (bytes_of (shape_of (Some (place c.in-Ok.node.now)))) in
    ap replies.Bytes (c.in_ok-copy-in-Ok.ensures.ok ∙ ap (λ n. take n bytes) (c.min-most.ensures ∙ ap (min c.args.count) c.read.ensures))
    ∙ found_reply c.args.limits (Read p c.args.off c.args.count) (forms.Read (read_limit c.args.limits) c.args.off c.args.count) p refl (tree_of (graph c.args.nodes.now)) _ (record { sound = c.in-Ok.ensures.sound; shape = c.in-Ok.ensures.shape; rising = c.in-Ok.ensures.rising })

pub returns-in_err-copy-in-Ok-clause-memory : goal.returns-in_err-copy-in-Ok-clause-memory
returns-in_err-copy-in-Ok-clause-memory c =
    let p = c.args.path.now in
    let t = tree_of (graph c.args.nodes.now) in
    let limits = c.args.limits in
    let bytes = drop c.args.off (bytes_of (shape_of (Some (place c.in-Ok.node.now)))) in
    on_err c.from_residual.result (needs limits t (Read p c.args.off c.args.count)
    (looking_fault limits (Read p c.args.off c.args.count) (forms.Read (read_limit limits) c.args.off c.args.count) p refl t ∙ c.in-Ok.ensures.sound)
    (ap (λ z. has_any (take (min c.args.count (read_limit limits)) (drop c.args.off (bytes_of z)))) c.in-Ok.ensures.shape
    ∙ sym (ap (λ n. has_any (take n bytes)) (c.min-most.ensures ∙ ap (min c.args.count) c.read.ensures)) ∙ c.in_err-copy-in-Ok.ensures.memory))
