use Rattle.std.proofs.Common.{◌≡◌, true, false}
use Rattle.atomfs_arguments.proofs.subcommand.outcomes_of.Goals as goal

pub returns-then-flag_given-clause-some : goal.returns-then-flag_given-clause-some
returns-then-flag_given-clause-some c seed runs by form add is are so = let same : true ≡ false = c.if-flag_given.ensures false add in absurd cc

pub returns-in-Some-clause-added : goal.returns-in-Some-clause-added
returns-in-Some-clause-added c form add is = let same : false ≡ true = c.if-flag_given.ensures true add in absurd cc

pub returns-in-Some-clause-some : goal.returns-in-Some-clause-some
returns-in-Some-clause-some c seed runs by form add is are so = (c.in-Some.ensures.some seed runs by are so, c.form_of-form.ensures.form form is)

pub returns-in-None-clause-added : goal.returns-in-None-clause-added
returns-in-None-clause-added c form add is = let same : false ≡ true = c.if-flag_given.ensures true add in absurd cc

pub returns-in-None-clause-some : goal.returns-in-None-clause-some
returns-in-None-clause-some c seed runs by form add is are so = absurd (c.in-None.ensures.some seed runs by are so)
