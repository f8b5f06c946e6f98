use Rattle.atomfs_arguments.proofs.Somes.{number_is}
use Rattle.atomfs_arguments.proofs.Viewing.{view_is}
use Rattle.atomfs_arguments.proofs.subcommand.view_of.Goals as goal

pub returns : goal.returns
returns c view is =
    view_is view c.number_given.result c.number_given-2.result c.flag_given.result
    (number_is _ _ c.number_given.result view.around c.number_given.ensures.given c.number_given.ensures.none is.around)
    (number_is _ _ c.number_given-2.result view.width c.number_given-2.ensures.given c.number_given-2.ensures.none is.width)
    (c.flag_given.ensures view.folds is.folds)
