-- What a handle owns: where a core is there, the same as a `Box<Core>`, and else nothing.
use Rattle.std.specs.Prelude.{Option, Some, None}
use base.Fml.{Fml, ftrue}
use denote.RawPtr.{Ptr}
use Rattle.std.specs.Box.Ownership.{box_owns}
use Rattle.std.specs.Global.{Global}
use Rattle.std_heap.specs.contracts.GlobalAllocator.TheImpl.{ghosts}
use Rattle.fs_core.specs.contracts.engine.Core.{the_row}

-- the memory that a handle owns
abbrev pub held_owns : Global → Ptr → Option the_row.Denot → Fml
held_owns alloc at (Some core) = box_owns (ghosts.dealloc_token alloc) the_row at core
held_owns alloc at None = ftrue
