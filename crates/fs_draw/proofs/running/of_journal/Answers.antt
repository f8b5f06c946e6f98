use Rattle.std.proofs.Common.{true}
use Rattle.fs_draw.proofs.running.of_journal.Goals as goal

pub returns-in_default-scene-clause-fault : goal.returns-in_default-scene-clause-fault
returns-in_default-scene-clause-fault c schedule = c.nothing_drawn.ensures true schedule c.args.text.now
