-- The bytes of extents.
use Rattle.std.specs.Prelude.{ℕ, List, ◌++◌, ◌==◌, if◌then◌else◌, length, replicate}
use Rattle.std.specs.List.{flat_map}
use Rattle.fs_linearize_sparse.specs.declared.extent.Extent.{Extent}
use Rattle.fs_linearize_sparse.specs.declared.rest.Rest.{Rest}
use Rattle.fs_linearize_sparse.specs.declared.rest.Piece.{Piece}
use Rattle.fs_linearize_sparse.specs.declared.rest.Piece.TheVariants.{Zeros, Bytes}

-- the zeros of a hole, and the bytes after it
abbrev pub bytes_of : Extent → List ℕ
bytes_of e = replicate e.hole 0 ++ e.data.items

-- what is left of a file
abbrev pub bytes_left : Rest → List ℕ
bytes_left r = replicate r.zeros 0 ++ (r.bytes.now ++ flat_map bytes_of r.extents.now)

-- how many bytes of it are at hand: zeros, or else bytes
abbrev pub first_len : Rest → ℕ
first_len r = if r.zeros == 0 then length r.bytes.now else r.zeros

-- the bytes of a piece
abbrev pub piece_bytes : Piece → List ℕ
piece_bytes (Zeros count) = replicate count 0
piece_bytes (Bytes bytes) = bytes.now
