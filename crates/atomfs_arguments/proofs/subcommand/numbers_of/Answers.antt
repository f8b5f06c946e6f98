use Rattle.atomfs_arguments.proofs.subcommand.numbers_of.Goals as goal

pub returns-clause-some : goal.returns-clause-some
returns-clause-some c seed runs are =
    c.within.ensures.some seed runs (c.number_given.ensures.given seed are.first) (c.number_given-2.ensures.given runs are.many) are.greatest are.some are.fewest
