-- The forms of calls, by what they look at: a node, an entry of a directory, or two entries.
use Rattle.std.specs.Prelude.{ℕ, ◌≡◌, ◌||◌, List, [], ◌∷◌, ◌++◌, Option, Some, None}
use Rattle.fs_names.specs.Failures.{check, first_failure}
use Rattle.fs_names.specs.Keys.{Key, is_root, is_proper_prefix}
use Rattle.fs_names.specs.Limits.{entry_limit, file_limit, read_limit}
use Rattle.fs_names.specs.Shapes.{Shape, Dir, File}
use Rattle.fs_names.specs.declared.limits.Limits.{Limits}
use Rattle.fs_names.specs.declared.limits.Limits.TheVariants.{V1}
use Rattle.fs_calls.specs.declared.call.Call.{Call}
use Rattle.fs_calls.specs.declared.call.Call.TheVariants as calls
use Rattle.fs_calls.specs.declared.errno.Errno.{Errno}
use Rattle.fs_calls.specs.declared.errno.Errno.TheVariants.{Eexist, Einval, Ebusy, Eperm}

-- stat, readdir, list (after, count), read (offset, count), write (offset, bytes), truncate (size); before all else read has the most bytes of a reply, and the last two the most bytes of a file
pub data NodeCall : Type 0 where
  Stat : NodeCall
  Readdir : NodeCall
  ListAfter : Key → ℕ → NodeCall
  Read : ℕ → ℕ → ℕ → NodeCall
  Write : ℕ → ℕ → List ℕ → NodeCall
  Truncate : ℕ → ℕ → NodeCall

-- mkdir, mknod, unlink, rmdir; the first two have the most entries of a directory
pub data EntryCall : Type 0 where
  Mkdir : ℕ → EntryCall
  Mknod : ℕ → EntryCall
  Unlink : EntryCall
  Rmdir : EntryCall

-- rename, with the most entries of a directory, and exchange
pub data PairCall : Type 0 where
  Rename : ℕ → PairCall
  Exchange : PairCall

-- a call by what it looks at: the node at a path, the entry that a path names, the entries of two paths
pub data Form : Type 0 where
  AtNode : NodeCall → Key → Form
  AtEntry : EntryCall → Key → Form
  AtPair : PairCall → Key → Key → Form

-- the form of a call by these limits
abbrev pub form : Limits → Call → Form
form limits (calls.Mkdir p) = AtEntry (Mkdir (entry_limit limits)) p
form limits (calls.Mknod p) = AtEntry (Mknod (entry_limit limits)) p
form limits (calls.Unlink p) = AtEntry Unlink p
form limits (calls.Rmdir p) = AtEntry Rmdir p
form limits (calls.Rename p q) = AtPair (Rename (entry_limit limits)) p q
form limits (calls.Exchange p q) = AtPair Exchange p q
form limits (calls.Stat p) = AtNode Stat p
form limits (calls.Readdir p) = AtNode Readdir p
form limits (calls.ListAfter count p after) = AtNode (ListAfter after count) p
form limits (calls.Read p off count) = AtNode (Read (read_limit limits) off count) p
form limits (calls.Write p off bytes) = AtNode (Write (file_limit limits) off bytes) p
form limits (calls.Truncate p size) = AtNode (Truncate (file_limit limits) size) p

-- the error of a call on the root's entry
abbrev pub root_error : EntryCall → Errno
root_error (Mkdir most) = Eexist
root_error (Mknod most) = Eexist
root_error Unlink = Eperm
root_error Rmdir = Ebusy

-- what the paths of a call decide alone
abbrev pub by_text : Form → Option Errno
by_text (AtNode c p) = None
by_text (AtEntry c p) = check (is_root p) (root_error c)
by_text (AtPair (Rename most) p q) = first_failure (check (is_root p || is_root q) Ebusy ∷ check (is_proper_prefix p q) Einval ∷ [])
by_text (AtPair Exchange p q) = first_failure (check (is_root p || is_root q) Ebusy ∷ check (is_proper_prefix p q || is_proper_prefix q p) Einval ∷ [])

-- the same of a call, which no limit changes
abbrev pub by_paths : Call → Option Errno
by_paths call = by_text (form V1 call)

-- the same call with its paths read from k on
abbrev pub under : Key → Form → Form
under k (AtNode c p) = AtNode c (k ++ p)
under k (AtEntry c p) = AtEntry c (k ++ p)
under k (AtPair c p q) = AtPair c (k ++ p) (k ++ q)

-- the node that a call may add
abbrev pub new_shape : EntryCall → Option Shape
new_shape (Mkdir most) = Some (Dir [])
new_shape (Mknod most) = Some (File [])
new_shape Unlink = None
new_shape Rmdir = None

-- what a call reserves a node for when it begins
abbrev pub reserves : Form → Option Shape
reserves (AtNode c p) = None
reserves (AtEntry c []) = None
reserves (AtEntry c (x ∷ p)) = new_shape c
reserves (AtPair c p q) = None

-- the same of a call, which no limit changes
abbrev pub reserved_by : Call → Option Shape
reserved_by call = reserves (form V1 call)

-- a call that its paths alone do not decide
abbrev pub Fits : Form → Type 0
Fits call = by_text call ≡ None
