use Rattle.std.proofs.Common.{◌≡◌, ◌≤◌, length, take, vec_capacity}
use Rattle.fs_blocks.proofs.chunk.Chunk.copy.Given as goal

abbrev pub invariant-loop-block : goal.invariant-loop-block
invariant-loop-block l = record {
  items : l.blocks.items ≡ take l.block-index l.block-items;
  room : length l.block-items ≤ vec_capacity l.blocks;
  memory : l.memory ≡ l.initial.memory;
}
