-- Which calls may need memory. All others never fail for want of it.
use Rattle.std.specs.Prelude.{◌+◌, Bool, true, false, not, ◌&&◌, ◌||◌, nat_lt, min, length, take, drop, is_some}
use Rattle.fs_names.specs.Keys.{parent_of, last_of}
use Rattle.fs_names.specs.Names.{names_above, is_long}
use Rattle.fs_names.specs.Limits.{read_limit, in_blocks}
use Rattle.fs_names.specs.declared.limits.TheConstants.{LIST_LIMIT}
use Rattle.fs_names.specs.declared.limits.Limits.{Limits}
use Rattle.fs_calls.specs.Tree.{Tree}
use Rattle.fs_calls.specs.Sights.{tree_shapes, is_missing, has_any, has_entries, names_of, bytes_of}
use Rattle.fs_calls.specs.Outcomes.{fault}
use Rattle.fs_calls.specs.Sights.{is_same}
use Rattle.fs_calls.specs.declared.call.Call.{Call}
use Rattle.fs_calls.specs.declared.call.Call.TheVariants.{Mkdir, Mknod, Unlink, Rmdir, Rename, Exchange, Stat, Readdir, ListAfter, Read, Write, Truncate}

-- a call without an error takes memory where it adds an entry to a directory or gives one a long name, makes a file longer, changes one in blocks, which others may share, or replies names or bytes
abbrev pub takes_memory : Limits → Tree → Call → Bool
takes_memory limits t (Mkdir p) = true
takes_memory limits t (Mknod p) = true
takes_memory limits t (Unlink p) = false
takes_memory limits t (Rmdir p) = false
takes_memory limits t (Rename p q) = is_missing (tree_shapes t q) && (not (is_same (parent_of p) (parent_of q)) || is_long (last_of q))
takes_memory limits t (Exchange p q) = false
takes_memory limits t (Stat p) = false
takes_memory limits t (Readdir p) = has_entries (tree_shapes t p)
takes_memory limits t (ListAfter count p after) = has_any (take (min count LIST_LIMIT) (names_above (last_of after) (names_of (tree_shapes t p))))
takes_memory limits t (Read p off count) = has_any (take (min count (read_limit limits)) (drop off (bytes_of (tree_shapes t p))))
takes_memory limits t (Write p off bytes) = has_any bytes && (in_blocks limits || nat_lt (length (bytes_of (tree_shapes t p))) (off + length bytes))
takes_memory limits t (Truncate p size) = in_blocks limits || nat_lt (length (bytes_of (tree_shapes t p))) size

-- a call with an error takes none
unfoldable pub needs_memory : Limits → Tree → Call → Bool
needs_memory limits t call = not (is_some (fault limits t call)) && takes_memory limits t call
