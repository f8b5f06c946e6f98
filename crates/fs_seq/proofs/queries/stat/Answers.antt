use Rattle.std.proofs.Common.{refl, ap, sym, subst, ◌∙◌}
use Rattle.std.proofs.lemmas.List.{length-map}
use Rattle.fs_names.specs.declared.kind.Kind.TheVariants as kind
use Rattle.fs_calls.specs.Forms as forms
use Rattle.fs_calls.specs.declared.call.Call.TheVariants.{Stat}
use Rattle.fs_calls.specs.declared.reply.Reply.TheVariants as replies
use Rattle.fs_seq_nodes.specs.code.Nodes.{graph, place, pairs}
use Rattle.fs_seq_nodes.specs.code.Slots.{tree_of}
use Rattle.fs_seq.specs.code.Effects.{IsFound}
use Rattle.fs_seq_nodes.proofs.NodeLemmas.{length-pairs}
use Rattle.fs_seq.proofs.Looked.{failed_reply, found_reply}
use Rattle.fs_seq.proofs.queries.stat.Goals as goal

pub returns-in-Err : goal.returns-in-Err
returns-in-Err c limits =
    let p = c.args.path.now in
    failed_reply limits (Stat p) forms.Stat p refl (tree_of (graph c.args.nodes.now)) c.in-Err.errno c.in-Err.ensures

pub returns-in-Ok-Dir : goal.returns-in-Ok-Dir
returns-in-Ok-Dir c limits =
    let p = c.args.path.now in
    let t = tree_of (graph c.args.nodes.now) in
    let found = subst (λ z. IsFound t forms.Stat p (place z)) c.in-Ok-Dir.field-0-is c.in-Ok-Dir.ensures in
    ap (replies.Stat kind.Dir) (c.len.ensures ∙ sym (length-pairs c.in-Ok-Dir.links) ∙ sym (length-map (pairs c.in-Ok-Dir.links) (λ l. l.0)))
    ∙ found_reply limits (Stat p) forms.Stat p refl t _ found

pub returns-in-Ok-File : goal.returns-in-Ok-File
returns-in-Ok-File c limits =
    let p = c.args.path.now in
    let t = tree_of (graph c.args.nodes.now) in
    let found = subst (λ z. IsFound t forms.Stat p (place z)) c.in-Ok-File.field-0-is c.in-Ok-File.ensures in
    ap (replies.Stat kind.File) c.len-in-Ok-File.ensures ∙ found_reply limits (Stat p) forms.Stat p refl t _ found
