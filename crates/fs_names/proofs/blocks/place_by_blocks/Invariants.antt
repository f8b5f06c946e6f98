use Rattle.std.proofs.Common.{◌≤◌, ◌-◌, length}
use Rattle.memchr.specs.Find.{Nowhere, Passes, is_byte}
use Rattle.fs_names.proofs.blocks.place_by_blocks.Given as goal

-- the byte is not passed
abbrev pub invariant-loop-from : goal.invariant-loop-from
invariant-loop-from l = record {
  low : l.start ≤ l.from;
  within : l.from ≤ length l.text;
  none : Nowhere (Passes (is_byte l.byte) l.text) l.start l.from;
}

abbrev pub decreases-loop-from : goal.decreases-loop-from
decreases-loop-from l = length l.text - l.from
