use Rattle.std.proofs.Common.{refl, ◌∙◌}
use Rattle.fs_trace.proofs.Objecting.{some_more, some_none}
use Rattle.fs_trace.proofs.object_text.push_all_left.Goals as goal

pub loop-left-init : goal.loop-left-init
loop-left-init c = record { before = refl; some = some_none c.args.text.now.added }

pub loop-left-preserved : goal.loop-left-preserved
loop-left-preserved c = record {
  before = c.push_left_of.ensures.before ∙ c.loop-left.invariant.before;
  some = some_more c.args.text.now.added c.loop-left.text.added c.push_left_of.new.text.added c.loop-left.invariant.some c.in_ok-push_left_of.ensures.ok;
}
