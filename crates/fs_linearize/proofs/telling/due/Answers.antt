use Rattle.fs_linearize.proofs.TellingLemmas.{plays_one_more}
use Rattle.fs_linearize.proofs.telling.due.Goals as goal

pub loop-place-preserved : goal.loop-place-preserved
loop-place-preserved c =
    plays_one_more c.args.start.now c.args.number c.args.journal.now c.loop-place.place c.index-journal-place.result c.loop-place.played c.in_ok-played.played c.loop-place-test.true c.index-journal-place.is c.in_ok-played.ensures c.loop-place.invariant
