use Rattle.std.proofs.Common.{sym, ◌∙◌}
use Rattle.std.proofs.lemmas.Result.{on_ok_weaker}
use Rattle.fs_trace_replay.proofs.WritingLemmas.{key_written, root_written}
use Rattle.fs_trace_replay.proofs.writing.push_key.Goals as goal

pub returns-then-is_empty-clause-ok : goal.returns-then-is_empty-clause-ok
returns-then-is_empty-clause-ok c = on_ok_weaker c.push.result (root_written _ _ c.args.key.now (sym c.is_empty.ensures ∙ c.if-is_empty.true)) c.push.ensures.ok

pub returns-clause-ok : goal.returns-clause-ok
returns-clause-ok c = on_ok_weaker c.push_names.result (key_written _ _ c.args.key.now (sym c.is_empty.ensures ∙ c.if-is_empty.false)) c.push_names.ensures.ok
