use Rattle.std.proofs.Common.{ap, sym, ◌∙◌, length, take, drop}
use Rattle.std.proofs.lemmas.List.{take-map}
use Rattle.fs_seq_nodes.specs.code.Entries.{pair, pairs}
use Rattle.fs_seq_nodes.proofs.LinkLemmas.{pairs-drop}
use Rattle.fs_seq_nodes.proofs.nodes.Node.from.Goals as goal

pub returns-clause-part : goal.returns-clause-part
returns-clause-part c =
    let n = length c.from.result.now in
    rw c.in-Dir.is (ap pairs c.from.ensures.part ∙ sym (take-map pair n (drop c.args.first c.in-Dir.links)) ∙ ap (take n) (pairs-drop c.in-Dir.links c.args.first))
