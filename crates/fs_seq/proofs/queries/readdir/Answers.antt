use Rattle.std.proofs.Common.{◌≡◌, Some, refl, ap, sym, ◌∙◌, map, length, arith}
use Rattle.std.proofs.lemmas.List.{length-map}
use Rattle.fs_calls.specs.Forms as forms
use Rattle.fs_calls.specs.Outcomes.{resolution}
use Rattle.fs_calls.specs.Sights.{tree_shapes, names_of, has_any}
use Rattle.fs_calls.specs.declared.call.Call.TheVariants.{Readdir}
use Rattle.fs_calls.specs.declared.reply.Reply.TheVariants as replies
use Rattle.fs_seq_nodes.specs.code.Nodes.{graph, place}
use Rattle.fs_seq_nodes.specs.code.Slots.{tree_of, links_of}
use Rattle.fs_seq.proofs.NameParts.{whole_names}
use Rattle.fs_seq.proofs.Looked.{all_told, looking_fault, failed_reply, found_reply, link_names}
use Rattle.fs_seq.proofs.Replies.{needs, on_err}
use Rattle.fs_seq.proofs.queries.readdir.Goals as goal

pub names_of-requires-clause-most : goal.names_of-requires-clause-most
names_of-requires-clause-most c =
    let all = links_of (Some (place c.in-Ok.node.now)) in
    let t = tree_of (graph c.args.nodes.now) in
    let same : names_of (tree_shapes t c.args.path.now) ≡ map (λ l. l.0) all = ap names_of c.in-Ok.ensures.shape ∙ sym (link_names (place c.in-Ok.node.now)) in
    let long = ap length same ∙ length-map all (λ l. l.0) in
    let few = all_told (resolution t c.args.path.now) (tree_shapes t c.args.path.now) c.in-Ok.ensures.sound in
    let count = c.entries.ensures in
    omega (arith, long, few, count)

pub returns-in-Err-clause-reply : goal.returns-in-Err-clause-reply
returns-in-Err-clause-reply c limits =
    let p = c.args.path.now in
    failed_reply limits (Readdir p) forms.Readdir p refl (tree_of (graph c.args.nodes.now)) c.in-Err.errno c.in-Err.ensures

pub returns-in_ok-names-in-Ok-clause-reply : goal.returns-in_ok-names-in-Ok-clause-reply
returns-in_ok-names-in-Ok-clause-reply c limits =
    let p = c.args.path.now in
    ap replies.Names (c.in_ok-names-in-Ok.ensures.ok ∙ whole_names (links_of (Some (place c.in-Ok.node.now))) c.entries.result c.entries.ensures ∙ link_names (place c.in-Ok.node.now))
    ∙ found_reply limits (Readdir p) forms.Readdir p refl (tree_of (graph c.args.nodes.now)) _ (record { sound = c.in-Ok.ensures.sound; shape = c.in-Ok.ensures.shape; rising = c.in-Ok.ensures.rising })

pub returns-in_err-names-in-Ok-clause-memory : goal.returns-in_err-names-in-Ok-clause-memory
returns-in_err-names-in-Ok-clause-memory c =
    let p = c.args.path.now in
    let t = tree_of (graph c.args.nodes.now) in
    on_err c.from_residual.result (λ limits. needs limits t (Readdir p)
    (looking_fault limits (Readdir p) forms.Readdir p refl t ∙ c.in-Ok.ensures.sound)
    (ap has_any (ap names_of c.in-Ok.ensures.shape ∙ sym (link_names (place c.in-Ok.node.now)) ∙ sym (whole_names (links_of (Some (place c.in-Ok.node.now))) c.entries.result c.entries.ensures)) ∙ c.in_err-names-in-Ok.ensures.memory))
