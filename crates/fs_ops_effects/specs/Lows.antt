-- Above what a list of names begins.
use Rattle.std.specs.Prelude.{Option, Some, None, []}
use Rattle.fs_names.specs.Names.{Name}

-- the bytes of a name, and no bytes where there is none
abbrev pub bytes_above : Option Name → Name
bytes_above None = []
bytes_above (Some low) = low
