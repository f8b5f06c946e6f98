use Rattle.std.proofs.Common.{◌-◌, ◌∷◌, [], ◌∙◌, sym, subst, arith}
use Rattle.fs_sched.specs.Schedules.{one_event}
use Rattle.fs_trace.specs.code.WordTexts.{AreTimed}
use Rattle.fs_trace.proofs.Wording.{last_gives, timed_append, timed_set}
use Rattle.fs_trace.proofs.script_text.push_event.Goals as goal

pub returns-in-Some-clause-given : goal.returns-in-Some-clause-given
returns-in-Some-clause-given c =
    last_gives c.args.words.now.items c.len-count.result c.args.seat c.index.result.now c.in-Some.more (c.len-count.ensures ∙ c.args.words.now.ok.0) c.if-count-gt0.true c.index.ensures c.in-Some.ensures.given

pub returns-in-Some-clause-timed : goal.returns-in-Some-clause-timed
returns-in-Some-clause-timed c = timed_set c.args.words.now.items (c.len-count.result - 1) c.in-Some.more c.in-Some.ensures.timed

pub returns-clause-timed : goal.returns-clause-timed
returns-clause-timed c timed = subst AreTimed (sym c.in_ok-push.ensures.items) (timed_append c.args.words.now.items (one_event c.args.seat ∷ []) timed (omega arith, tt))
