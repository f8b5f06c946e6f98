use Rattle.std.proofs.Common.{◌∙◌, ap, sym, map}
use Rattle.fs_seq_nodes.proofs.LinkLemmas.{pairs-drop}
use Rattle.fs_seq_nodes.proofs.SearchLemmas.{past}
use Rattle.fs_seq_nodes.proofs.nodes.Node.above.Goals as goal

pub returns-in-Dir-clause-names : goal.returns-in-Dir-clause-names
returns-in-Dir-clause-names c = rw c.in-Dir.is (ap (map (λ l. l.0)) (sym (pairs-drop c.in-Dir.links c.above.result)) ∙ past c.args.bytes.now c.in-Dir.links c.above.result c.above.ensures.first c.above.ensures.second)
