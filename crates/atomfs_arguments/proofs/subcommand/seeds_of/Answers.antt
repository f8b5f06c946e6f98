use Rattle.atomfs_arguments.proofs.subcommand.seeds_of.Goals as goal

pub returns-in-Some-clause-some : goal.returns-in-Some-clause-some
returns-in-Some-clause-some c seed runs by format are is form = (c.in-Some.ensures.some seed runs by are is, c.format_of-format.ensures format form)

pub returns-in-None-clause-some : goal.returns-in-None-clause-some
returns-in-None-clause-some c seed runs by format are is form = absurd (c.in-None.ensures.some seed runs by are is)
