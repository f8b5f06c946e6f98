use Rattle.std.proofs.Common.{ap, ◌∙◌}
use Rattle.fs_nodes.specs.Seen.{Seen}
use Rattle.fs_ops.proofs.BeginLemmas.{undone}
use Rattle.fs_ops.proofs.prepared.Prepared.new.Goals as goal

pub returns-in-Err-clause-err : goal.returns-in-Err-clause-err
returns-in-Err-clause-err c = ap (λ (s : Seen). s.graph) c.give_back.ensures ∙ undone _ _ _ _ _ c.in_ok-reserved.ensures.ok.reserves
