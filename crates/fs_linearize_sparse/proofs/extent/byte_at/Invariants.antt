use Rattle.std.proofs.Common.{◌≡◌, drop, get_or}
use Rattle.std.specs.List.{flat_map}
use Rattle.fs_linearize_sparse.specs.code.Extents.{bytes_of}
use Rattle.fs_linearize_sparse.proofs.extent.byte_at.Given as goal

-- the byte is this one of those that are left
abbrev pub invariant-loop-extent : goal.invariant-loop-extent
invariant-loop-extent l = get_or (flat_map bytes_of (drop l.extent-index l.extents)) l.left 0 ≡ get_or (flat_map bytes_of l.extents) l.place 0
