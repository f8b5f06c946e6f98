use Rattle.std.proofs.Common.{ℕ, ◌≤◌, ◌<◌, ◌+◌, ◌*◌, ◌^◌, length, vec_capacity}
use Rattle.fs_blocks.specs.declared.sizes.TheConstants.{BLOCK, SPAN}
use Rattle.fs_blocks.specs.Spares.{parts_of}
use Rattle.fs_blocks.specs.code.Bytes.{byte_of_rest, Puts}
use Rattle.fs_blocks.proofs.long.put_all.Given as goal

-- what puts the bytes that are left puts all
abbrev pub invariant-loop-left : goal.invariant-loop-left
invariant-loop-left l = record {
  put : (g : ℕ → ℕ) → Puts (byte_of_rest l.chunks.items) g l.at l.left → Puts (byte_of_rest l.initial.chunks.items) g l.off l.fn.bytes;
  list : l.at + length l.left ≤ vec_capacity l.chunks * SPAN;
  fits : l.at + length l.left < 2 ^ 64;
  rooms : parts_of SPAN l.at (length l.left) ≤ l.rooms;
  buffers : parts_of BLOCK l.at (length l.left) ≤ l.buffers;
}

abbrev pub decreases-loop-left : goal.decreases-loop-left
decreases-loop-left l = length l.left
