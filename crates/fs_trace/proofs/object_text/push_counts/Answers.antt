use Rattle.std.proofs.Common.{List, ◌++◌, ap, ◌∙◌}
use Rattle.std.proofs.lemmas.Result.{on_ok_weaker}
use Rattle.fs_words.specs.JsonObjects.{Member, object_text}
use Rattle.fs_trace.proofs.Objecting.{end_is}
use Rattle.fs_trace.proofs.object_text.push_counts.Goals as goal

pub returns-clause-ok : goal.returns-clause-ok
returns-clause-ok c =
    on_ok_weaker c.push_object.result
    (λ e t entries is counted. end_is t entries c.args.counts c.args.tree.now c.args.text.now.added c.push_object.new.text.added c.text.result c.text-2.result c.number.result c.number-2.result c.number-3.result is counted c.text.ensures c.text-2.ensures c.number.ensures c.number-2.ensures c.number-3.ensures
    (e ∙ ap (λ (ms : List Member). c.args.text.now.added ++ object_text ms) c.as_slice.ensures)) c.push_object.ensures.ok
