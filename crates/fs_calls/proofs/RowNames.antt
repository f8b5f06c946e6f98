-- The rows of the calls by name, for proofs that speak of one row.
use Rattle.std.proofs.Common.{◌≡◌, ℕ, List, [], ◌∷◌, Option, Some, None, refl}
use Rattle.fs_names.specs.Failures.{check, first_failure}
use Rattle.fs_names.specs.Keys.{Key, has_more}
use Rattle.fs_names.specs.Names.{Name}
use Rattle.fs_names.specs.Shapes.{Shape, Dir}
use Rattle.fs_calls.specs.Forms.{Mkdir, Unlink, Rmdir, NodeCall, Stat, Readdir, ListAfter, Read, Write, Truncate}
use Rattle.fs_calls.specs.Rows.{node_fault, entry_fault, node_reply, node_row, answered}
use Rattle.fs_calls.specs.declared.errno.Errno.{Errno}
use Rattle.fs_calls.specs.declared.reply.Reply.{Reply}
use Rattle.fs_calls.specs.declared.errno.Errno.TheVariants.{Einval}

-- mkdir and mknod
abbrev pub making : ℕ → Option Errno → Option Shape → Option Shape → Option Errno
making most parent dir there = entry_fault (Mkdir most) parent dir there

-- unlink and rmdir do not ask whether the directory is full
abbrev pub unlinking : Option Errno → Option Shape → Option Errno
unlinking parent there = entry_fault Unlink parent None there

abbrev pub removing : Option Errno → Option Shape → Option Errno
removing parent there = entry_fault Rmdir parent None there

-- readdir, read, write, truncate
abbrev pub listing : Option Errno → Option Shape → Option Errno
listing found there = node_fault Readdir found there

abbrev pub reading : Option Errno → Option Shape → Option Errno
reading found there = node_fault (Read 0 0 0) found there

abbrev pub writing : ℕ → Option Errno → Option Shape → ℕ → List ℕ → Option Errno
writing most found there off bytes = node_fault (Write most off bytes) found there

abbrev pub truncating : ℕ → Option Errno → Option Shape → ℕ → Option Errno
truncating most found there size = node_fault (Truncate most size) found there

-- the error of a rename to a place below the node itself
abbrev pub if_below : Option Key → Option Errno
if_below rest = first_failure (check (has_more rest) Einval ∷ [])

-- where no bytes come without an error, none come at all
no_bytes : (found : Option Errno) (reply : Reply) → (answered {C = Option (List ℕ)} found None reply None).1 ≡ None
no_bytes None reply = refl
no_bytes (Some e) reply = refl

-- a directory gets no bytes
pub on_dir : (c : NodeCall) (names : List Name) → (node_row c None (Some (Dir names))).1 ≡ None
on_dir Stat names = refl
on_dir Readdir names = no_bytes (node_fault Readdir None (Some (Dir names))) (node_reply Readdir (Some (Dir names)))
on_dir (ListAfter after count) names = refl
on_dir (Read most off count) names = refl
on_dir (Write most off bytes) names = refl
on_dir (Truncate most size) names = refl
