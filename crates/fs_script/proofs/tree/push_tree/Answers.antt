use Rattle.std.proofs.lemmas.Result.{on_ok_weaker}
use Rattle.fs_nodes.specs.Seen.{seen}
use Rattle.fs_script.proofs.StepLemmas.{all_written}
use Rattle.fs_script.proofs.tree.push_tree.Goals as goal

pub returns-clause-ok : goal.returns-clause-ok
returns-clause-ok c = on_ok_weaker c.push_nodes.result (λ e. all_written (seen c.args.store.now) c.push_nodes.ensures.real _ _ _ c.in_ok-push.ensures.ok e) c.push_nodes.ensures.ok
