-- What each call replies on a tree, and the tree after it: the rows, read at the keys of the tree.
use Rattle.std.specs.Prelude.{ℕ, List, [], ◌∷◌, if◌then◌else◌, Option, Some, None}
use Rattle.fs_names.specs.Failures.{or_else}
use Rattle.fs_names.specs.Keys.{Key, parent_of}
use Rattle.fs_names.specs.declared.limits.Limits.{Limits}
use Rattle.fs_calls.specs.Tree as tree
use Rattle.fs_calls.specs.Tree.{Tree, Node, inserted, removed, renamed, exchanged}
use Rattle.fs_calls.specs.Starts.{Start, start_tree}
use Rattle.fs_calls.specs.Sights.{Shape, Dir, File, tree_shapes}
use Rattle.fs_calls.specs.Sights.{resolve, resolve_dir, is_same, row_in}
use Rattle.fs_calls.specs.Forms.{form, by_text, new_shape, Form, AtNode, AtEntry, AtPair, Rename, Exchange}
use Rattle.fs_calls.specs.Rows.{node_reply, new_bytes, Edit, Keep, Add, Remove, edit_of}
use Rattle.fs_calls.specs.declared.call.Call.{Call}
use Rattle.fs_calls.specs.declared.reply.Reply.{Reply}
use Rattle.fs_calls.specs.declared.reply.Reply.TheVariants as answer
use Rattle.fs_calls.specs.declared.errno.Errno.{Errno}

-- the resolution of a key in a tree
abbrev pub resolution : Tree → Key → Option Errno
resolution t p = resolve (tree_shapes t) p

-- the resolution of the parent of a key
abbrev pub parents_resolution : Tree → Key → Option Errno
parents_resolution t p = resolve_dir (tree_shapes t) (parent_of p)

-- the reply to a call without an error
abbrev pub reply_of : Tree → Form → Reply
reply_of t (AtNode c p) = node_reply c (tree_shapes t p)
reply_of t (AtEntry c p) = answer.Done
reply_of t (AtPair (Rename most) p q) = answer.Done
reply_of t (AtPair Exchange p q) = answer.Done

-- the file at a key has new bytes from now on; None: the tree stays
abbrev pub filled : Tree → Key → Option (List ℕ) → Tree
filled t p None = t
filled t p (Some bytes) = inserted t p (tree.File bytes)

-- the node that is seen so; a directory of a tree keeps no names
abbrev pub node_of : Shape → Node
node_of (Dir names) = tree.Dir
node_of (File bytes) = tree.File bytes

-- the tree after what a call makes of an entry
abbrev pub edited : Tree → Key → Edit → Tree
edited t p Keep = t
edited t p (Add shape) = inserted t p (node_of shape)
edited t p Remove = removed t p

-- the tree after a call without an error
abbrev pub change_of : Tree → Form → Tree
change_of t (AtNode c p) = filled t p (new_bytes c (tree_shapes t p))
change_of t (AtEntry c p) = edited t p (edit_of (new_shape c))
change_of t (AtPair (Rename most) p q) = if is_same p q then t else renamed t p q
change_of t (AtPair Exchange p q) = if is_same p q then t else exchanged t p q

-- the first error behind those that the paths decide alone
abbrev pub row : Limits → Tree → Call → Option Errno
row limits t call = row_in (tree_shapes t) (form limits call)

-- the reply to a call, if it has no error
abbrev pub success : Limits → Tree → Call → Reply
success limits t call = reply_of t (form limits call)

-- the tree after a call, if it has no error
abbrev pub change : Limits → Tree → Call → Tree
change limits t call = change_of t (form limits call)

-- the first error of a call by these limits
unfoldable pub fault : Limits → Tree → Call → Option Errno
fault limits t call = or_else (by_text (form limits call)) (row limits t call)

-- an error is the reply, and else what a call without one replies
abbrev pub replied : Option Errno → Reply → Reply
replied None well = well
replied (Some e) well = answer.Failed e

-- an error leaves the tree as it was
abbrev pub if_sound : Option Errno → Tree → Tree → Tree
if_sound None old new = new
if_sound (Some e) old new = old

-- what a call replies on a tree
unfoldable pub reply : Limits → Tree → Call → Reply
reply limits t call = replied (fault limits t call) (success limits t call)

-- the tree after a call
unfoldable pub after : Limits → Tree → Call → Tree
after limits t call = if_sound (fault limits t call) t (change limits t call)

-- what a call replies at a start
abbrev pub reply_at : Start → Call → Reply
reply_at start call = reply start.limits (start_tree start) call

-- the start that a call leaves: the tree after it, by the same limits
abbrev pub called : Start → Call → Start
called start call = record { limits = start.limits; tree = after start.limits (start_tree start) call }

-- the tree after a list of calls, from a start
abbrev pub play : Start → List Call → Tree
play start [] = start_tree start
play start (call ∷ calls) = play (called start call) calls

-- the replies to a list of calls, from a start
abbrev pub replies : Start → List Call → List Reply
replies start [] = []
replies start (call ∷ calls) = reply_at start call ∷ replies (called start call) calls

-- the start that a list of calls leaves
abbrev pub next_start : Start → List Call → Start
next_start start calls = record { limits = start.limits; tree = play start calls }
