use Rattle.std.proofs.Common.{◌≡◌, []}
use Rattle.std.specs.List.{flat_map, range_with_len}
use Rattle.fs_sched_start.specs.Objects.{seed_text}
use Rattle.fs_sched_start.proofs.objects.objects_of.Given as goal

abbrev pub invariant-loop-run : goal.invariant-loop-run
invariant-loop-run l = record {
  before : l.text.before ≡ [];
  runs : l.text.added ≡ flat_map seed_text (range_with_len l.seed l.run);
}
