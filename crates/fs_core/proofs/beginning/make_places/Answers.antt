use Rattle.std.proofs.Common.{◌+◌, ◌<◌, arith}
use Rattle.fs_locks.specs.declared.word.TheConstants.{CALL_LIMIT}
use Rattle.fs_core.proofs.Readiness.{number_fits}
use Rattle.fs_core.proofs.beginning.make_places.Goals as goal

pub overflow_add-result : goal.overflow_add-result
overflow_add-result c =
    let l : c.args.begun + 1 < CALL_LIMIT = number_fits c.args.timeline.now c.make_places.new.self _ c.args.begun c.requires.begun c.in_ok-make_places.ensures.ok c.in_ok-make_places.ensures.few in
    omega (arith, l)

pub returns-clause-few : goal.returns-clause-few
returns-clause-few c = number_fits c.args.timeline.now c.make_places.new.self _ c.args.begun c.requires.begun c.in_ok-make_places.ensures.ok c.in_ok-make_places.ensures.few
