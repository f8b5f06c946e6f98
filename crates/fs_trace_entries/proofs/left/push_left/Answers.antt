use Rattle.std.proofs.lemmas.Result.{on_ok_weaker}
use Rattle.fs_trace_entries.proofs.Somes.{some_one}
use Rattle.fs_trace_entries.proofs.left.push_left.Goals as goal

pub returns-clause-ok : goal.returns-clause-ok
returns-clause-ok c = on_ok_weaker c.push_object.result (λ e. some_one _ c.args.text.now.added c.push_object.new.text.added e) c.push_object.ensures.ok
