-- The forms of a file.
use Rattle.std.specs.Prelude.{true, false}
use Rattle.fs_blocks.specs.Files.{FileValue}
use Rattle.fs_blocks.specs.declared.file.Form.{Form}
use Rattle.fs_blocks.specs.declared.file.Form.TheVariants.{Plain, Short, Long}

-- the file in this form
abbrev pub value_of : Form → FileValue
value_of (Plain bytes) = record { bytes = bytes.items; in_blocks = false }
value_of (Short block) = record { bytes = block; in_blocks = true }
value_of (Long file) = record { bytes = file.value; in_blocks = true }
