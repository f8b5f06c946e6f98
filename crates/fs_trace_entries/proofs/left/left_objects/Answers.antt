use Rattle.std.proofs.Common.{[], ◌∙◌}
use Rattle.fs_trace_entries.proofs.Somes.{some_more}
use Rattle.fs_trace_entries.proofs.left.left_objects.Goals as goal

pub loop-entry-preserved : goal.loop-entry-preserved
loop-entry-preserved c = record {
  before = c.push_left_of.ensures.before ∙ c.loop-entry.invariant.before;
  some = some_more [] c.loop-entry.text.added c.push_left_of.new.text.added c.loop-entry.invariant.some c.in_ok-push_left_of.ensures.ok;
}
