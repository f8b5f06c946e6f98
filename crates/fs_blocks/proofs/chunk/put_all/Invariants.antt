use Rattle.std.proofs.Common.{ℕ, ◌≤◌, ◌+◌, length, vec_capacity}
use Rattle.fs_blocks.specs.declared.sizes.TheConstants.{BLOCK, CHUNK, SPAN}
use Rattle.fs_blocks.specs.code.Bytes.{byte_of_chunk, Puts}
use Rattle.fs_blocks.specs.Spares.{parts_of}
use Rattle.fs_blocks.proofs.chunk.put_all.Given as goal

-- what puts the bytes that are left puts all
abbrev pub invariant-loop-left : goal.invariant-loop-left
invariant-loop-left l = record {
  put : (g : ℕ → ℕ) → Puts (byte_of_chunk l.blocks.items) g l.at l.left → Puts (byte_of_chunk l.initial.blocks.items) g l.off l.fn.bytes;
  room : CHUNK ≤ vec_capacity l.blocks;
  most : l.at + length l.left ≤ SPAN;
  buffers : parts_of BLOCK l.at (length l.left) ≤ l.buffers;
  used : l.initial.buffers + parts_of BLOCK l.at (length l.left) ≤ l.buffers + parts_of BLOCK l.off (length l.fn.bytes);
}

abbrev pub decreases-loop-left : goal.decreases-loop-left
decreases-loop-left l = length l.left
