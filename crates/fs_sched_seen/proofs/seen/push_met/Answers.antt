use Rattle.std.proofs.Common.{◌++◌, codes}
use Rattle.std.proofs.lemmas.Result.{on_ok_weaker}
use Rattle.fs_words.proofs.Chains.{added}
use Rattle.fs_sched_seen.specs.Seen.{counted, grouped}
use Rattle.fs_sched_seen.proofs.seen.push_met.Goals as goal

pub returns-clause-ok : goal.returns-clause-ok
returns-clause-ok c =
    let end = codes " of calls met" in
    let all = counted c.args.pairs.all (codes " pair") in
    let more = codes " of " ++ (all ++ end) in
    let last = c.push-3.new.self.added in
    on_ok_weaker c.push-3.result
    (λ e. added c.args.text.now.added (codes "; ") (grouped c.args.pairs.met ++ more) c.push.new.self.added last c.in_ok-push.ensures.ok
    (added c.push.new.self.added (grouped c.args.pairs.met) more c.push_grouped.new.text.added last c.in_ok-push_grouped.ensures.ok
    (added c.push_grouped.new.text.added (codes " of ") (all ++ end) c.push-2.new.self.added last c.in_ok-push-2.ensures.ok
    (added c.push-2.new.self.added all end c.push_counted.new.text.added last c.in_ok-push_counted.ensures.ok e)))) c.push-3.ensures.ok
