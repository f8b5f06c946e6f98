use Rattle.std.proofs.Common.{◌++◌, codes, decimal}
use Rattle.std.proofs.lemmas.Result.{on_ok_weaker}
use Rattle.fs_words.specs.Json.{string_text}
use Rattle.fs_words.proofs.Chains.{added, added_number}
use Rattle.fs_sched_find.proofs.object.push_run.Goals as goal

pub returns-clause-ok : goal.returns-clause-ok
returns-clause-ok c =
    let script = string_text c.args.script.now in
    let last = script ++ codes "}\n" in
    let new = c.push-2.new.self.added in
    on_ok_weaker c.push-2.result (λ e. added_number c.args.text.now.added (codes "{\"seed\":") (decimal c.args.seed) (codes ",\"script\":" ++ last) c.push_with_number.new.self.added new c.in_ok-push_with_number.ensures.ok
    (added c.push_with_number.new.self.added (codes ",\"script\":") last c.push.new.self.added new c.in_ok-push.ensures.ok
    (added c.push.new.self.added script (codes "}\n") c.push_string.new.text.added new c.in_ok-push_string.ensures.ok e))) c.push-2.ensures.ok
