use Rattle.std.proofs.Common.{◌∙◌}
use Rattle.atomfs_arguments.proofs.Somes.{in_some, nothing}
use Rattle.atomfs_arguments.proofs.subcommand.find_of.Goals as goal

pub returns-in-Some-drawn_runs_of-clause-some : goal.returns-in-Some-drawn_runs_of-clause-some
returns-in-Some-drawn_runs_of-clause-some c text seed runs by format what are is form =
    (in_some _ _ (c.in-Some.ensures ∙ what), c.in-Some-drawn_runs_of.ensures.some seed runs by are is, c.format_of-format.ensures format form)

pub returns-in-None-clause-some : goal.returns-in-None-clause-some
returns-in-None-clause-some c text seed runs by format what are is form = absurd (c.in-None.ensures.some seed runs by are is)

pub returns-in_default-clause-some : goal.returns-in_default-clause-some
returns-in_default-clause-some c text seed runs by format what are is form = absurd (nothing _ (c.in_default.ensures ∙ what))
