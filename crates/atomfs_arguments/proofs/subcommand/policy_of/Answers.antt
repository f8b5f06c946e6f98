use Rattle.std.proofs.Common.{◌≡◌, ap, Some, None}
use Rattle.fs_sched.specs.declared.policy.Policy.TheVariants.{Uniform, Priorities}
use Rattle.atomfs_arguments.proofs.Somes.{in_some, nothing}
use Rattle.atomfs_arguments.proofs.subcommand.policy_of.Goals as goal

pub returns-in-Some : goal.returns-in-Some
returns-in-Some c Uniform is = let same = c.in-Some.ensures.none is in absurd cc
returns-in-Some c (Priorities depth) is = ap Priorities (in_some _ _ (c.in-Some.ensures.given depth is))

pub returns-in-None : goal.returns-in-None
returns-in-None c Uniform is = cc
returns-in-None c (Priorities depth) is = let same = c.in-None.ensures.given depth is in absurd cc
