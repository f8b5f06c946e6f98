-- What the functions on nodes answer and leave.
use Rattle.std.specs.Prelude.{◌≡◌, ℕ, length, List, [], remove, ◌<◌, Option, Some, None, Result, Ok, Err, if◌then◌else◌, IsTrue}
use Rattle.std.specs.FinMap.{is_sorted}
use Rattle.fs_names.specs.Names.{name_cmp}
use Rattle.fs_names.specs.Keys.{Key, is_root, parent_of, last_of}
use Rattle.fs_names.specs.Limits.{entry_limit}
use Rattle.fs_names.specs.Failures.{check, or_else}
use Rattle.fs_names.specs.declared.limits.Limits.{Limits}
use Rattle.fs_calls.specs.Tree.{Tree}
use Rattle.fs_calls.specs.Sights.{tree_shapes, has_any}
use Rattle.fs_calls.specs.Outcomes.{fault, resolution, parents_resolution, reply, after, replied, if_sound}
use Rattle.fs_calls.specs.Forms as forms
use Rattle.fs_calls.specs.Forms.{NodeCall}
use Rattle.fs_calls.specs.declared.target.EntryCall.{EntryCall}
use Rattle.fs_calls.specs.declared.target.EntryCall.TheVariants.{Mkdir, Mknod, Unlink, Rmdir}
use Rattle.fs_calls.specs.Rows.{entry_fault, node_fault, node_row, written}
use Rattle.fs_seq.specs.Memory.{needs_memory}
use Rattle.fs_seq_nodes.specs.code.Slots.{Place, Dir, File, Slots, place_at, links_at, links_of, shape_of, walk, tree_of, IsForest, KeepsForm, Sets}
use Rattle.fs_seq_nodes.specs.code.Nodes.{BelongsAt, IsTaken}
use Rattle.fs_calls.specs.declared.call.Call.{Call}
use Rattle.fs_calls.specs.declared.call.Call.TheVariants as calls
use Rattle.fs_calls.specs.declared.reply.Reply.{Reply}
use Rattle.fs_calls.specs.declared.errno.Errno.{Errno}
use Rattle.fs_calls.specs.declared.errno.Errno.TheVariants.{Eexist}

-- a call's reply, and the graph that it leaves, by its errors, its reply without one and the tree that it then makes
pub record Gives (g g' : Slots) (found : Option Errno) (well : Reply) (new : Tree) (r : Reply) : Type 0 where
  pub reply : r ≡ replied found well
  pub tree : tree_of g' ≡ if_sound found (tree_of g) new
  pub forest : IsForest g'

-- the same, of a call by these limits
pub record AnswersWithin (limits : Limits) (g g' : Slots) (call : Call) (r : Reply) : Type 0 where
  pub reply : r ≡ reply limits (tree_of g) call
  pub tree : tree_of g' ≡ after limits (tree_of g) call
  pub forest : IsForest g'
  pub form : KeepsForm limits g g'

-- the same, of a call that no limit decides
pub record Answers (g g' : Slots) (call : Call) (r : Reply) : Type 0 where
  pub reply : (limits : Limits) → r ≡ reply limits (tree_of g) call
  pub tree : (limits : Limits) → tree_of g' ≡ after limits (tree_of g) call
  pub forest : IsForest g'
  pub form : (limits : Limits) → KeepsForm limits g g'

-- the first error of such a call, or that it has none
abbrev pub HasFault : Tree → Call → Option Errno → Type 0
HasFault t call o = (limits : Limits) → fault limits t call ≡ o

-- the same of a call by these limits
abbrev pub HasFaultBy : Limits → Tree → Call → Option Errno → Type 0
HasFaultBy limits t call o = fault limits t call ≡ o

-- a call that no limit decides needs memory
abbrev pub NeedsMemory : Tree → Call → Type 0
NeedsMemory t call = (limits : Limits) → IsTrue (needs_memory limits t call)

-- the call that does this to the entry at a path
abbrev pub call_on : EntryCall → Key → Call
call_on Mkdir p = calls.Mkdir p
call_on Mknod p = calls.Mknod p
call_on Unlink p = calls.Unlink p
call_on Rmdir p = calls.Rmdir p

-- the errors of the calls that make a node
unfoldable pub making_fault : Limits → Tree → Key → Option Errno
making_fault limits t p = or_else (check (is_root p) Eexist) (entry_fault (forms.Mkdir (entry_limit limits)) (parents_resolution t p) (tree_shapes t (parent_of p)) (tree_shapes t p))

-- a directory in which a path's last name can be made, and the place where it belongs
pub record IsGap (limits : Limits) (g : Slots) (p : Key) (dir i : ℕ) : Type 0 where
  pub sound : making_fault limits (tree_of g) p ≡ None
  pub named : 0 < length p
  pub parent : walk g (parent_of p) ≡ Some dir
  pub directory : place_at g dir ≡ Some (Dir (links_at g dir))
  pub belongs : BelongsAt (links_at g dir) (last_of p) i

-- a gap that was found, or why there is none
abbrev pub FindsGap : Limits → Slots → Key → Result (ℕ × ℕ) Errno → Type 0
FindsGap limits g p (Ok at) = IsGap limits g p at.0 at.1
FindsGap limits g p (Err e) = making_fault limits (tree_of g) p ≡ Some e

-- an entry without entries of its own, which a call removes
pub record IsVictim (g : Slots) (call : Call) (p : Key) (dir i n : ℕ) : Type 0 where
  pub sound : HasFault (tree_of g) call None
  pub named : 0 < length p
  pub spot : IsTaken g p dir i n
  pub leaf : links_at g n ≡ []

-- an entry and its place, both gone
pub record Detaches (g g' : Slots) (dir i n : ℕ) : Type 0 where
  pub between : Slots
  pub unlinking : Sets g between dir (Some (Dir (remove (links_at g dir) i)))
  pub removing : Sets between g' n None

-- the first error of a call on the node at a path
abbrev pub node_error : Tree → NodeCall → Key → Option Errno
node_error t c p = node_fault c (resolution t p) (tree_shapes t p)

-- a call on the node at a path has no error, and this is the place at which the path ends; the names of its links rise
pub record IsFound (t : Tree) (c : NodeCall) (p : Key) (at : Place) : Type 0 where
  pub sound : node_error t c p ≡ None
  pub shape : tree_shapes t p ≡ shape_of (Some at)
  pub rising : IsTrue (is_sorted name_cmp (links_of (Some at)))

-- the bytes of a file after a write, which does nothing where there is nothing to write
abbrev pub written_if_any : List ℕ → ℕ → List ℕ → List ℕ
written_if_any old off bytes = if has_any bytes then written old off bytes else old

-- the place of a file with these bytes from now on, in its form; None: it stays
abbrev pub refilled : Option (List ℕ) → Place → Place
refilled None at = at
refilled (Some bytes) (Dir links) = Dir links
refilled (Some bytes) (File old) = File (record old { bytes = bytes })

-- the reply of a call on a node, and the place that it leaves there
pub record Rewrites (at at' : Place) (c : NodeCall) (r : Reply) : Type 0 where
  pub reply : r ≡ (node_row c None (shape_of (Some at))).0
  pub place : at' ≡ refilled (node_row c None (shape_of (Some at))).1 at
