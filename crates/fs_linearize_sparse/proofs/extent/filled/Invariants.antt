use Rattle.std.proofs.Common.{◌≡◌, take}
use Rattle.std.specs.List.{flat_map}
use Rattle.fs_linearize_sparse.specs.code.Extents.{bytes_of}
use Rattle.fs_linearize_sparse.proofs.extent.filled.Given as goal

abbrev pub invariant-loop-extent : goal.invariant-loop-extent
invariant-loop-extent l = l.bytes.items ≡ flat_map bytes_of (take l.extent-index l.extents)
