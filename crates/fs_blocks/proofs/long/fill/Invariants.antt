use Rattle.std.proofs.Common.{◌≡◌, ◌≤◌, ◌-◌, ◌++◌, [], max, length, replicate, vec_capacity}
use Rattle.fs_blocks.proofs.long.fill.Given as goal

abbrev pub invariant-loop : goal.invariant-loop
invariant-loop l = record {
  items : l.chunks.items ≡ l.initial.chunks.items ++ replicate (l.counter - length l.initial.chunks.items) [];
  most : l.counter ≤ max l.count (length l.initial.chunks.items);
  room : vec_capacity l.chunks ≡ vec_capacity l.initial.chunks;
}
