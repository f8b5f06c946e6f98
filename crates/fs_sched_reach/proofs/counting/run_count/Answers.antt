use Rattle.fs_sched_reach.proofs.Seeking.{run_counted}
use Rattle.fs_sched_reach.proofs.counting.run_count.Goals as goal

pub returns : goal.returns
returns c =
    run_counted c.args.from.now c.args.script.now c.args.sought.now.target c.args.sought.now.before c.moments_after.result c.new-lookout.result c.watch_at.new.witness c.in_default.field-0
    c.new-lookout.ensures.target c.new-lookout.ensures.nothing c.in_default.ensures.watches c.moments_after.ensures
