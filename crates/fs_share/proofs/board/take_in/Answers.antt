use Rattle.std.proofs.Common.{◌∙◌, ap, sym, slice_get}
use Rattle.fs_timeline.specs.Timeline.{commits}
use Rattle.fs_share.proofs.Publishing.{next_fits, taken_in}
use Rattle.fs_share.proofs.board.take_in.Goals as goal

pub take_in-requires : goal.take_in-requires
take_in-requires g c =
    let all = commits c.args.core.now.timeline in
    next_fits all c.args.publisher.now c.committed.result.now c.requires.beginnings (ap (λ n. slice_get all n) (sym c.requires.next) ∙ c.committed.ensures)

pub returns-clause-beginnings : goal.returns-clause-beginnings
returns-clause-beginnings g c =
    let all = commits c.args.core.now.timeline in
    let e = c.take_in.ensures in
    taken_in all c.args.publisher.now c.take_in.new.self c.committed.result.now c.take_in.result c.requires.beginnings (ap (λ n. slice_get all n) (sym c.requires.next) ∙ c.committed.ensures) e.published e.ok e.err e.entered
