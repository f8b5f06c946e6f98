use Rattle.std.proofs.Common.{◌≡◌, ℕ, ◌+◌, ◌≤◌, ◌<◌, [], true}
use Rattle.std.specs.List.{flat_map, range_with_len}
use Rattle.fs_sched.specs.Seeds.{lawful_line, IsLawfulOn}
use Rattle.fs_sched.proofs.seeding.seeds_of.Given as goal

abbrev pub invariant-loop-run : goal.invariant-loop-run
invariant-loop-run g l = record {
  before : l.lines.before ≡ [];
  lawful : l.lawful ≡ true;
  each : (n : ℕ) → l.seed ≤ n → n < l.seed + l.run → IsLawfulOn l.campaign l.script n;
  lines : l.lines.added ≡ flat_map lawful_line (range_with_len l.seed l.run);
}
