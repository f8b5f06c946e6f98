-- The bytes of a block.
use Rattle.std.specs.Prelude.{ℕ, List, []}
use Rattle.fs_blocks.specs.declared.block.Form.{Form}
use Rattle.fs_blocks.specs.declared.block.Form.TheVariants.{Hole, Own, Shared}

-- the bytes, wherever they are
abbrev pub bytes_in : Form → List ℕ
bytes_in Hole = []
bytes_in (Own own) = own.items
bytes_in (Shared shared) = shared
