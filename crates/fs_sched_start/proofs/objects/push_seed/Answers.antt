use Rattle.std.proofs.Common.{codes, decimal}
use Rattle.std.proofs.lemmas.Result.{on_ok_weaker}
use Rattle.fs_words.proofs.Chains.{added_number}
use Rattle.fs_sched_start.proofs.objects.push_seed.Goals as goal

pub returns-clause-ok : goal.returns-clause-ok
returns-clause-ok c =
    on_ok_weaker c.push.result (λ e. added_number c.args.text.now.added (codes "{\"seed\":") (decimal c.args.seed) (codes ",\"lawful\":true}\n") c.push_with_number.new.self.added c.push.new.self.added c.in_ok-push_with_number.ensures.ok e) c.push.ensures.ok
