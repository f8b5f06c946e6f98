use Rattle.std.proofs.Common.{◌++◌, ◌∙◌}
use Rattle.std.proofs.lemmas.Option.{MatchOption-at_none, MatchOption-at_some}
use Rattle.std.proofs.lemmas.Result.{IfOk-weaker}
use Rattle.fs_sched_reach.specs.Words.{times_word}
use Rattle.fs_sched_reach.specs.code.Counting.{CountsBy, RunCounts}
use Rattle.fs_sched_reach.proofs.Seeking.{by_others, not_read, read_by}
use Rattle.fs_sched_reach.proofs.counting.count_within.Goals as goal

pub returns-in_default : goal.returns-in_default
returns-in_default c = not_read c.args.from.now c.args.limits c.args.sought.now.target _ c.deref.result.now (c.deref.ensures.value ∙ c.in_ok-long.ensures) (MatchOption-at_none _ _ c.in_default.is c.in_ok-script.ensures.read)

pub returns-then-not-are_same : goal.returns-then-not-are_same
returns-then-not-are_same c =
    by_others c.args.from.now c.args.limits c.args.sought.now.target _ c.deref.result.now c.in-Some.script (c.deref.ensures.value ∙ c.in_ok-long.ensures) (MatchOption-at_some _ _ c.in-Some.script c.in-Some.is c.in_ok-script.ensures.read)
    (c.are_same.ensures.others c.if-not-are_same.true)

pub returns : goal.returns
returns c =
    let from = c.args.from.now in
    let limits = c.args.limits in
    let target = c.args.sought.now.target in
    let before = c.args.sought.now.before in
    let text = c.args.text.now ++ times_word c.args.name.now c.args.times in
    IfOk-weaker c.run_count.result (RunCounts from c.in-Some.script target before) (CountsBy from limits target before text)
    (read_by from limits target before text c.deref.result.now c.in-Some.script (c.deref.ensures.value ∙ c.in_ok-long.ensures) (MatchOption-at_some _ _ c.in-Some.script c.in-Some.is c.in_ok-script.ensures.read)
    (c.are_same.ensures.same c.if-not-are_same.false))
    c.run_count.ensures
