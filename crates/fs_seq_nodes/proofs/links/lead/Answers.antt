use Rattle.std.proofs.Common.{◌≡◌, ◌<◌, Some, sym, ap, subst, ◌∙◌, length, slice_set}
use Rattle.fs_names.specs.Names.{Name}
use Rattle.fs_seq_nodes.specs.code.Entries.{pairs}
use Rattle.fs_seq_nodes.proofs.NodeLemmas.{length-pairs, name_read}
use Rattle.fs_seq_nodes.proofs.LinkLemmas.{pairs-set}
use Rattle.fs_seq_nodes.proofs.links.lead.Goals as goal

some_name : {x y : Name} → Some x ≡ Some y → x ≡ y
some_name e = cc

pub returns-clause-leads : goal.returns-clause-leads
returns-clause-leads c x named =
    let links = c.args.links.now.items in
    let within : c.args.place < length (pairs links) = subst (λ n. c.args.place < n) (sym (length-pairs links)) c.requires in
    let read = name_read links c.args.place c.index_mut.result.now within c.index_mut.ensures.value in
    let name : c.index_mut.result.now.name ≡ x = some_name (sym read ∙ named) in
    pairs-set links c.args.place (record { name = c.index_mut.result.now.name; node = c.args.node }) ∙ ap (λ y. slice_set (pairs links) c.args.place (y, c.args.node)) name
