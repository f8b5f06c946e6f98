use Rattle.std.proofs.Common.{◌∙◌}
use Rattle.fs_timeline.specs.Timeline.{commits}
use Rattle.fs_core.proofs.Again.{played_next}
use Rattle.fs_core.proofs.start_tree.play.Goals as goal

pub loop-i-preserved : goal.loop-i-preserved
loop-i-preserved c = record {
  so_far = played_next c.args.tree.now (commits c.args.timeline.now.entries) c.loop-i.i c.committed.result.now c.loop-i.tree c.play_call.new.tree c.committed.ensures c.loop-i.invariant.so_far c.in_ok-play_call.ensures.tree;
  granted = c.in_ok-play_call.ensures.granted ∙ c.loop-i.invariant.granted;
}
