-- Parts of the rows of errors, of what is read in steps.
use Rattle.std.specs.Prelude.{Bool, true, false, not, [], ◌∷◌, Option, Some}
use Rattle.fs_names.specs.Failures.{check, first_failure}
use Rattle.fs_names.specs.Shapes.{Shape, is_there}
use Rattle.fs_calls.specs.Forms.{new_shape, EntryCall}
use Rattle.fs_calls.specs.Rows.{Edit, Keep, Add, answered, edit_of, entry_errors, place_fault, rename_errors}
use Rattle.fs_calls.specs.declared.errno.Errno.{Errno}
use Rattle.fs_calls.specs.declared.errno.Errno.TheVariants.{Eexist, Enospc}
use Rattle.fs_calls.specs.declared.reply.Reply.{Reply}
use Rattle.fs_calls.specs.declared.reply.Reply.TheVariants as answer

-- a new node, where the entry has room and nothing stands there
abbrev pub made : Shape → Bool → Option Shape → Reply × Edit
made new full there = answered (first_failure (check (is_there there) Eexist ∷ check full Enospc ∷ [])) Keep answer.Done (Add new)

-- a call on an entry whose parent is a directory
abbrev pub entry_row_in_dir : EntryCall → Option Shape → Option Shape → Reply × Edit
entry_row_in_dir c parent there = answered (first_failure (entry_errors c parent there)) Keep answer.Done (edit_of (new_shape c))

-- a rename whose parents are directories
abbrev pub rename_row_in_dirs : Option Shape → Bool → Option Shape → Bool → Reply × Bool
rename_row_in_dirs moved same_path there room = answered (first_failure (rename_errors moved same_path there room)) false answer.Done (not same_path)

-- the first error of the new path, of a node that is there
abbrev pub to_row : Shape → Option Shape → Bool → Option Errno
to_row moved there room = place_fault (Some moved) there room

-- such a rename by its error: without one it moves the node
abbrev pub moves_row : Option Errno → Reply × Bool
moves_row found = answered found false answer.Done true
