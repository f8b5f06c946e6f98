use Rattle.std.proofs.Common.{false}
use Rattle.fs_draw.proofs.Reasons.{run_drawn}
use Rattle.fs_draw.proofs.running.of_script.Goals as goal

pub returns-clause-drawn : goal.returns-clause-drawn
returns-clause-drawn c = run_drawn _ c.args.schedule c.args.text.now c.in_ok-script.script _ _ c.in_ok-ran.ran c.in_ok-script.ensures.script c.in_ok-ran.ensures.watches

pub returns-in_default-scene-clause-fault : goal.returns-in_default-scene-clause-fault
returns-in_default-scene-clause-fault c = c.nothing_drawn.ensures false c.args.schedule c.args.text.now
