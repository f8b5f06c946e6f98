use Rattle.atomfs_arguments.proofs.subcommand.asked_of.Goals as goal

pub returns-in-Some-clause-at : goal.returns-in-Some-clause-at
returns-in-Some-clause-at c n given = let same = c.in-Some.ensures.given n given in cc

pub returns-in-Some-get_str-clause-at : goal.returns-in-Some-get_str-clause-at
returns-in-Some-get_str-clause-at c n given = absurd (c.in_default.not-Some n (c.number_given.ensures.given n given))

pub returns-in-Some-get_str-2-clause-at : goal.returns-in-Some-get_str-2-clause-at
returns-in-Some-get_str-2-clause-at c n given = absurd (c.in_default.not-Some n (c.number_given.ensures.given n given))

pub returns-in-None-clause-at : goal.returns-in-None-clause-at
returns-in-None-clause-at c n given = absurd (c.in_default.not-Some n (c.number_given.ensures.given n given))
