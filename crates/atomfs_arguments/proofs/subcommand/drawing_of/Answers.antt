use Rattle.std.proofs.Common.{◌≡◌, true, false, sym, ap, ◌∙◌}
use Rattle.atomfs_arguments.specs.declared.subcommand.Drawing.TheVariants.{Picture}
use Rattle.atomfs_arguments.proofs.subcommand.drawing_of.Goals as goal

pub returns-then-flag_given-clause-picture : goal.returns-then-flag_given-clause-picture
returns-then-flag_given-clause-picture c view unset is = absurd (let both : true ≡ false = sym c.if-flag_given.true ∙ c.flag_given.ensures false unset in cc)

pub returns-else-flag_given-clause-page : goal.returns-else-flag_given-clause-page
returns-else-flag_given-clause-page c set = absurd (let both : true ≡ false = sym (c.flag_given.ensures true set) ∙ c.if-flag_given.false in cc)

pub returns-else-flag_given-clause-picture : goal.returns-else-flag_given-clause-picture
returns-else-flag_given-clause-picture c view unset is = ap Picture (c.view_of-view.ensures view is)
