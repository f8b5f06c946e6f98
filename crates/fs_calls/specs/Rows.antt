-- The table of errors, replies and changes. A call answers the first error of its row that holds, and an error changes nothing.
-- A row speaks of what was read and looks nothing up: the tree reads at keys, the machine at the nodes that it holds.
use Rattle.std.specs.Prelude.{ℕ, ◌+◌, ◌-◌, Bool, false, not, ◌&&◌, ◌||◌, nat_lt, min, length, take, drop, replicate, List, [], ◌∷◌, ◌++◌, Option, Some, None, if◌then◌else◌}
use Rattle.fs_names.specs.Failures.{check, first_failure}
use Rattle.fs_names.specs.Shapes.{Shape, Dir, File, is_there, is_missing, is_dir, is_file, names_of, bytes_of, has_any, has_entries, is_crowded, is_full}
use Rattle.fs_names.specs.Names.{names_above}
use Rattle.fs_names.specs.Keys.{last_of}
use Rattle.fs_names.specs.declared.limits.TheConstants.{LIST_LIMIT}
use Rattle.fs_names.specs.declared.kind.Kind.TheVariants as kind
use Rattle.fs_calls.specs.Forms.{NodeCall, Stat, Readdir, ListAfter, Read, Write, Truncate, EntryCall, Mkdir, Mknod, Unlink, Rmdir, PairCall, Rename, Exchange, new_shape}
use Rattle.fs_calls.specs.declared.errno.Errno.{Errno}
use Rattle.fs_calls.specs.declared.errno.Errno.TheVariants.{Enoent, Enotdir, Eexist, Enotempty, Eisdir, Eperm, Enospc, Efbig, Eoverflow}
use Rattle.fs_calls.specs.declared.reply.Reply.{Reply}
use Rattle.fs_calls.specs.declared.reply.Reply.TheVariants as answer

-- ---- errors, in order

-- a call on a node, by what stands at the path
abbrev pub node_errors : NodeCall → Option Shape → List (Option Errno)
node_errors Stat there = []
node_errors Readdir there = check (is_file there) Enotdir ∷ check (is_crowded there) Eoverflow ∷ []
node_errors (ListAfter after count) there = check (is_file there) Enotdir ∷ []
node_errors (Read most off count) there = check (is_dir there) Eisdir ∷ []
node_errors (Write most off bytes) there = check (is_dir there) Eisdir ∷ check (has_any bytes && nat_lt most (off + length bytes)) Efbig ∷ []
node_errors (Truncate most size) there = check (is_dir there) Eisdir ∷ check (nat_lt most size) Efbig ∷ []

-- a call on an entry, by its directory and what stands at the path
abbrev pub entry_errors : EntryCall → Option Shape → Option Shape → List (Option Errno)
entry_errors (Mkdir most) dir there = check (is_there there) Eexist ∷ check (is_full most dir) Enospc ∷ []
entry_errors (Mknod most) dir there = check (is_there there) Eexist ∷ check (is_full most dir) Enospc ∷ []
entry_errors Unlink dir there = check (is_missing there) Enoent ∷ check (is_dir there) Eperm ∷ []
entry_errors Rmdir dir there = check (is_missing there) Enoent ∷ check (is_file there) Enotdir ∷ check (has_entries there) Enotempty ∷ []

-- the new path of a rename, by what stands at both paths and whether the new one has room
abbrev pub place_errors : Option Shape → Option Shape → Bool → List (Option Errno)
place_errors moved there room =
    check (is_file there && is_dir moved) Enotdir
    ∷ check (is_dir there && is_file moved) Eisdir
    ∷ check (has_entries there) Enotempty
    ∷ check (is_missing there && not room) Enospc
    ∷ []

-- the first error of the new path
abbrev pub place_fault : Option Shape → Option Shape → Bool → Option Errno
place_fault moved there room = first_failure (place_errors moved there room)

-- a rename, by the same and whether both paths are one
abbrev pub rename_errors : Option Shape → Bool → Option Shape → Bool → List (Option Errno)
rename_errors moved same_path there room = check (is_missing moved) Enoent ∷ (if same_path then [] else place_errors moved there room)

-- an entry has room in the directory from which it comes, and in one that is not full
abbrev pub has_room : ℕ → Bool → Option Shape → Bool
has_room most one_parent dir = one_parent || not (is_full most dir)

-- a parent's resolution, by that of its path and what stands there
abbrev pub as_dir : Option Errno → Option Shape → Option Errno
as_dir found dir = first_failure (found ∷ check (is_missing dir) Enoent ∷ check (is_file dir) Enotdir ∷ [])

-- the first error of a call on a node, behind the resolution of its path
abbrev pub node_fault : NodeCall → Option Errno → Option Shape → Option Errno
node_fault c found there = first_failure (found ∷ check (is_missing there) Enoent ∷ node_errors c there)

-- the same of a call on an entry, behind the resolution of its parent
abbrev pub entry_fault : EntryCall → Option Errno → Option Shape → Option Shape → Option Errno
entry_fault c parent dir there = first_failure (parent ∷ entry_errors c dir there)

-- the same of a rename, behind the resolutions of both parents
abbrev pub rename_fault : Option Errno → Option Errno → Option Shape → Bool → Option Shape → Bool → Option Errno
rename_fault source dest moved same_path there room = first_failure (source ∷ dest ∷ rename_errors moved same_path there room)

-- both nodes of an exchange are there
abbrev pub exchange_errors : Option Shape → Option Shape → List (Option Errno)
exchange_errors one other = check (is_missing one) Enoent ∷ check (is_missing other) Enoent ∷ []

-- a call on two entries, by the same as a rename
abbrev pub pair_errors : PairCall → Option Shape → Bool → Option Shape → Bool → List (Option Errno)
pair_errors (Rename most) one same_path other room = rename_errors one same_path other room
pair_errors Exchange one same_path other room = exchange_errors one other

-- the first error of an exchange, behind the resolutions of both parents
abbrev pub exchange_fault : Option Errno → Option Errno → Option Shape → Option Shape → Option Errno
exchange_fault source dest one other = first_failure (source ∷ dest ∷ exchange_errors one other)

-- ---- replies and changes without an error

-- the kind and the size of a node
abbrev pub status : Option Shape → Reply
status None = answer.Failed Enoent
status (Some (Dir names)) = answer.Stat kind.Dir (length names)
status (Some (File bytes)) = answer.Stat kind.File (length bytes)

-- a call on a node; all other calls reply Done
abbrev pub node_reply : NodeCall → Option Shape → Reply
node_reply Stat there = status there
node_reply Readdir there = answer.Names (names_of there)
node_reply (ListAfter after count) there = answer.Names (take (min count LIST_LIMIT) (names_above (last_of after) (names_of there)))
node_reply (Read most off count) there = answer.Bytes (take (min count most) (drop off (bytes_of there)))
node_reply (Write most off bytes) there = answer.Wrote (length bytes)
node_reply (Truncate most size) there = answer.Done

-- the bytes of a file after a write: a gap reads as zeros
abbrev pub written : List ℕ → ℕ → List ℕ → List ℕ
written old off bytes = take off old ++ replicate (off - length old) 0 ++ bytes ++ drop (off + length bytes) old

-- the bytes of a file after a truncate
abbrev pub resized : List ℕ → ℕ → List ℕ
resized old size = take size old ++ replicate (size - length old) 0

-- the new bytes of a file, if any
abbrev pub new_bytes : NodeCall → Option Shape → Option (List ℕ)
new_bytes Stat there = None
new_bytes Readdir there = None
new_bytes (ListAfter after count) there = None
new_bytes (Read most off count) there = None
new_bytes (Write most off bytes) there = if has_any bytes then Some (written (bytes_of there) off bytes) else None
new_bytes (Truncate most size) there = Some (resized (bytes_of there) size)

-- what a call on an entry makes of it: it stays, a new node stands there, or it goes
pub data Edit : Type 0 where
  Keep : Edit
  Add : Shape → Edit
  Remove : Edit

-- a call that makes no node removes the entry
abbrev pub edit_of : Option Shape → Edit
edit_of None = Remove
edit_of (Some new) = Add new

-- ---- the rows, as replies and changes by what was read

-- an error changes nothing
abbrev pub answered : {C : Type 0} → Option Errno → C → Reply → C → Reply × C
answered (Some e) unchanged reply change = (answer.Failed e, unchanged)
answered None unchanged reply change = (reply, change)

-- a call on a node: its reply, and the new bytes of a file, if any
abbrev pub node_row : NodeCall → Option Errno → Option Shape → Reply × Option (List ℕ)
node_row c found there = answered (node_fault c found there) None (node_reply c there) (new_bytes c there)

-- a call on an entry, by the parent's resolution, the parent, and what the name stands for
abbrev pub entry_row : EntryCall → Option Errno → Option Shape → Option Shape → Reply × Edit
entry_row c parent dir there = answered (entry_fault c parent dir there) Keep answer.Done (edit_of (new_shape c))

-- a rename, by both parents' resolutions and what p and q stand for: whether it really moves
abbrev pub rename_row : Option Errno → Option Errno → Option Shape → Bool → Option Shape → Bool → Reply × Bool
rename_row source dest moved same_path there room = answered (rename_fault source dest moved same_path there room) false answer.Done (not same_path)

-- an exchange, by both parents' resolutions and what p and q stand for: whether it really moves
abbrev pub exchange_row : Option Errno → Option Errno → Option Shape → Bool → Option Shape → Reply × Bool
exchange_row source dest one same_path other = answered (exchange_fault source dest one other) false answer.Done (not same_path)
