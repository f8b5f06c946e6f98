use Rattle.fs_linearize_flat.proofs.RangeLemmas.{range_is}
use Rattle.fs_linearize_flat.proofs.searching.range_below.Goals as goal

pub returns : goal.returns
returns c =
    range_is c.args.key.now c.args.cells.now c.from_place-rest.result.now c.count_before-from.result c.count_below-many.result c.count_before-from.ensures.within c.count_below-many.ensures.within c.from_place-rest.ensures.is
    c.count_before-from.ensures.before c.count_below-many.ensures.inside c.count_below-many.ensures.behind
