use Rattle.std.proofs.Common.{◌≡◌, ◌≤◌, ◌-◌, ◌++◌, [], max, length, replicate, vec_capacity}
use Rattle.fs_blocks.proofs.chunk.fill.Given as goal

abbrev pub invariant-loop : goal.invariant-loop
invariant-loop l = record {
  items : l.blocks.items ≡ l.initial.blocks.items ++ replicate (l.counter - length l.initial.blocks.items) [];
  most : l.counter ≤ max l.count (length l.initial.blocks.items);
  room : vec_capacity l.blocks ≡ vec_capacity l.initial.blocks;
}
