use Rattle.std.proofs.Common.{◌≡◌, ◌∙◌, ap₂}
use Rattle.fs_sched.specs.Schedules.{schedule_by}
use Rattle.atomfs_arguments.proofs.Somes.{in_some}
use Rattle.atomfs_arguments.proofs.subcommand.schedule_of.Goals as goal

pub returns-in-Some-clause-drawn : goal.returns-in-Some-clause-drawn
returns-in-Some-clause-drawn c n by robin given is = c.schedule.ensures ∙ ap₂ schedule_by (c.policy_of.ensures by is) (in_some _ _ (c.in-Some.ensures.given n given))

pub returns-in-None-clause-drawn : goal.returns-in-None-clause-drawn
returns-in-None-clause-drawn c n by robin given is = let same = c.in-None.ensures.given n given in cc
