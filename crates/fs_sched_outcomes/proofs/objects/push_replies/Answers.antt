use Rattle.std.proofs.Common.{◌++◌, true, codes}
use Rattle.std.proofs.lemmas.Result.{on_ok_weaker}
use Rattle.fs_words.proofs.Chains.{added}
use Rattle.fs_sched_outcomes.specs.Lines.{members_from}
use Rattle.fs_sched_outcomes.proofs.objects.push_replies.Goals as goal

pub returns-clause-ok : goal.returns-clause-ok
returns-clause-ok c =
    let members = members_from true c.args.row.now c.args.columns.now in
    on_ok_weaker c.push-2.result (λ last. added c.args.text.now.added (codes ",\"replies\":{") (members ++ codes "}") c.push.new.self.added c.push-2.new.self.added c.in_ok-push.ensures.ok
    (added c.push.new.self.added members (codes "}") c.push_members.new.text.added c.push-2.new.self.added c.in_ok-push_members.ensures.ok last)) c.push-2.ensures.ok
