use Rattle.std.proofs.Common.{◌≡◌, ◌++◌, take, drop}
use Rattle.std.specs.List.{flat_map}
use Rattle.fs_linearize_sparse.specs.code.Extents.{bytes_of}
use Rattle.fs_linearize_sparse.proofs.extent.add_part.Given as goal

-- what was added, and what is left to add
abbrev pub invariant-loop-extent : goal.invariant-loop-extent
invariant-loop-extent l = flat_map bytes_of l.to.items ++ take l.cut.count (drop l.cut.skip (flat_map bytes_of (drop l.extent-index l.from))) ≡ flat_map bytes_of l.initial.to.items ++ take l.count (drop l.skip (flat_map bytes_of l.from))
