use Rattle.std.proofs.Common.{◌++◌, codes, decimal}
use Rattle.std.proofs.lemmas.Result.{on_ok_weaker}
use Rattle.fs_words.specs.Json.{string_text}
use Rattle.fs_words.proofs.Chains.{added, added_number}
use Rattle.fs_sched_outcomes.proofs.objects.push_numbers.Goals as goal

pub returns-clause-ok : goal.returns-clause-ok
returns-clause-ok c =
    let digest = string_text c.args.digest.now in
    let more = codes ",\"digest\":" ++ digest in
    let rest = codes ",\"seed\":" ++ (decimal c.args.row.now.seed ++ more) in
    on_ok_weaker c.push_string.result (λ last. added_number c.args.text.now.added (codes "{\"times\":") (decimal c.args.row.now.times) rest c.push_with_number.new.self.added c.push_string.new.text.added c.in_ok-push_with_number.ensures.ok
    (added_number c.push_with_number.new.self.added (codes ",\"seed\":") (decimal c.args.row.now.seed) more c.push_with_number-2.new.self.added c.push_string.new.text.added c.in_ok-push_with_number-2.ensures.ok
    (added c.push_with_number-2.new.self.added (codes ",\"digest\":") digest c.push.new.self.added c.push_string.new.text.added c.in_ok-push.ensures.ok last))) c.push_string.ensures.ok
