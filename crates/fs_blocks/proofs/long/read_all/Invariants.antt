use Rattle.std.proofs.Common.{◌≡◌, ◌≤◌, ◌+◌, ◌++◌, vec_len, vec_capacity}
use Rattle.fs_blocks.specs.code.Bytes.{byte_of_file, bytes_from}
use Rattle.fs_blocks.proofs.long.read_all.Given as goal

-- with the bytes that are left all are there
abbrev pub invariant-loop-left : goal.invariant-loop-left
invariant-loop-left l = record {
  bytes : l.into.items ++ bytes_from (byte_of_file l.first l.chunks) l.at l.left ≡ l.initial.into.items ++ bytes_from (byte_of_file l.first l.chunks) l.off l.count;
  room : vec_len l.into + l.left ≤ vec_capacity l.into;
  end : l.at + l.left ≡ l.off + l.count;
}

abbrev pub decreases-loop-left : goal.decreases-loop-left
decreases-loop-left l = l.left
