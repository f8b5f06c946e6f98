use Rattle.std.proofs.Common.{◌≡◌, ◌≤◌, length, take, vec_capacity}
use Rattle.fs_blocks.proofs.long.copied.Given as goal

abbrev pub invariant-loop-chunk : goal.invariant-loop-chunk
invariant-loop-chunk l = record {
  items : l.copies.items ≡ take l.chunk-index l.chunks.items;
  room : length l.chunks.items ≤ vec_capacity l.copies;
  memory : l.memory ≡ l.initial.memory;
}
