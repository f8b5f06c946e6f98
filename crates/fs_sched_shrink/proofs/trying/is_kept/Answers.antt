use Rattle.std.proofs.Common.{◌≤◌, sym, subst}
use Rattle.fs_script.specs.Limits.{call_limit, calls_in}
use Rattle.fs_script.specs.declared.script.Script.{Script}
use Rattle.fs_sched.specs.Origins.{CanBegin}
use Rattle.fs_sched_shrink.proofs.Counting.{few_kept}
use Rattle.fs_sched_shrink.proofs.trying.is_kept.Goals as goal

pub is_tried-requires-clause-few : goal.is_tried-requires-clause-few
is_tried-requires-clause-few c = subst (λ (s : Script). calls_in s.lists ≤ call_limit s.limits) (sym (c.in_ok-cut.ensures c.args.script.now c.requires.read)) (few_kept c.args.kept.now c.args.script.now c.requires.few)

pub is_tried-requires-clause-begins : goal.is_tried-requires-clause-begins
is_tried-requires-clause-begins c = subst (λ (s : Script). CanBegin c.args.from.now s.limits) (sym (c.in_ok-cut.ensures c.args.script.now c.requires.read)) c.requires.begins
