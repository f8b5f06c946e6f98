use Rattle.std.proofs.Common.{◌∙◌}
use Rattle.fs_sched_start.specs.Objects.{seed_text}
use Rattle.fs_sched_start.proofs.Ranges.{lines_more}
use Rattle.fs_sched_start.proofs.objects.objects_of.Goals as goal

pub loop-run-preserved : goal.loop-run-preserved
loop-run-preserved c = record {
  before = c.push_seed.ensures.before ∙ c.loop-run.invariant.before;
  runs = lines_more seed_text c.args.seed c.loop-run.run c.loop-run.text.added c.push_seed.new.text.added c.loop-run.invariant.runs c.in_ok-push_seed.ensures.ok;
}
