-- Entries whose keys rise, and what is found among them.
use Rattle.std.specs.Prelude.{◌≡◌, ℕ, Bool, true, false, ◌<◌, ◌≤◌, List, [], not, is_some, ◌-◌, ◌+◌, ◌++◌, length, map, take, drop, slice_index_or, slice_set, insert, Option, Some, None, Result, Ok, Err}
use Rattle.std.specs.Borrow.{Bor}
use Rattle.std.specs.FinMap.{find, put}
use Rattle.std.specs.FinMap.Entries.{where_key}
use Rattle.fs_names.specs.Names.{Name}
use Rattle.fs_names.specs.Keys.{Key, key_cmp, same_key, after_prefix}
use Rattle.fs_names.specs.Failures.{or_else}
use Rattle.fs_names.specs.declared.kind.Kind.{Kind}
use Rattle.fs_names.specs.declared.kind.Kind.TheVariants as kinds
use Rattle.fs_calls.specs.Tree.{Node, Dir, File, Tree, moved_key, exchanged_key}
use Rattle.fs_calls.specs.Sights.{tree_shapes, shape_of, resolve, resolve_next}
use Rattle.fs_calls.specs.declared.errno.Errno.{Errno}
use Rattle.fs_calls.specs.declared.reply.Reply.{Reply}
use Rattle.fs_calls.specs.declared.reply.Reply.TheVariants as answer
use Rattle.fs_seq.specs.Rows.{node_of_kind}
use Rattle.fs_linearize_flat.specs.declared.cell.Entry.{Entry}

-- names that are lent, as names
abbrev pub lent_names : List (Bor Name) → List Name
lent_names names = map (λ n. n.now) names

-- the kind of a node
abbrev pub kind_of : Node → Kind
kind_of Dir = kinds.Dir
kind_of (File bytes) = kinds.File

-- the bytes of a node; a directory has none
abbrev pub bytes_at : Node → List ℕ
bytes_at Dir = []
bytes_at (File bytes) = bytes

-- the entry of a tree that an entry is
abbrev pub entry_of : Entry → Key × Node
entry_of e = (e.key.items, node_of_kind e.kind e.content)

-- the node of an entry, if there is one
abbrev pub node_in : Option (Key × Node) → Option Node
node_in None = None
node_in (Some cell) = Some cell.1

-- the entries without that of a key
abbrev pub without_key : Key → Tree → Tree
without_key k t = where_key key_cmp (λ y. not (same_key k y)) t

-- a key stands at this place among entries
pub record IsAt (t : Tree) (k : Key) (i : ℕ) : Type 0 where
  pub within : i < length t
  pub found : (d : Key × Node) → find key_cmp k t ≡ Some (slice_index_or t i d).1
  pub set : (n : Node) → put key_cmp k n t ≡ slice_set t i (k, n)
  pub without : without_key k t ≡ take i t ++ drop (i + 1) t

-- a key is not among entries, and belongs at this place
pub record BelongsAt (t : Tree) (k : Key) (i : ℕ) : Type 0 where
  pub within : i ≤ length t
  pub absent : find key_cmp k t ≡ None
  pub placed : (n : Node) → put key_cmp k n t ≡ insert t i (k, n)
  pub without : without_key k t ≡ t

-- where a key stands among entries, or where it belongs
abbrev pub Searches : Tree → Key → Result ℕ ℕ → Type 0
Searches t k (Ok i) = IsAt t k i
Searches t k (Err i) = BelongsAt t k i

-- why a path does not go on from an entry to one below it
abbrev pub GoesOn : Option (Key × Node) → Option (Key × Node) → Option Errno → Type 0
GoesOn here below e = (t : Tree) (d k : Key) (rest : Option Errno) → resolve_next (shape_of t d (node_in here)) (shape_of t k (node_in below)) rest ≡ or_else e rest

-- the resolution of a key is what is left of it behind so many names
abbrev pub IsReached : Tree → Key → ℕ → Type 0
IsReached t k i = resolve (tree_shapes t) k ≡ resolve (λ z. tree_shapes t (take i k ++ z)) (drop i k)

-- it goes on by one name more, or ends there
abbrev pub ReachesOn : Tree → Key → ℕ → Option Errno → Type 0
ReachesOn t k i None = IsReached t k i → IsReached t k (i + 1)
ReachesOn t k i (Some e) = IsReached t k i → Some e ≡ resolve (tree_shapes t) k

-- the entries at a key and below it
abbrev pub below_key : Key → Tree → Tree
below_key k t = where_key key_cmp (λ y. is_some (after_prefix k y)) t

-- the entries that are not at a key, nor below it
abbrev pub beside_key : Key → Tree → Tree
beside_key k t = where_key key_cmp (λ y. not (is_some (after_prefix k y))) t

-- the entries at a key and below it stand from one place up to another
pub record IsRange (t : Tree) (k : Key) (i j : ℕ) : Type 0 where
  pub order : i ≤ j
  pub within : j ≤ length t
  pub below : take (j - i) (drop i t) ≡ below_key k t
  pub beside : take i t ++ drop j t ≡ beside_key k t

-- an entry, where a key with the one prefix gets the other
abbrev pub moved_cell : Key → Key → Key × Node → Key × Node
moved_cell p q cell = (moved_key p q cell.0, cell.1)

-- an entry, where a key with either prefix gets the other one
abbrev pub swapped_cell : Key → Key → Key × Node → Key × Node
swapped_cell p q cell = (exchanged_key p q cell.0, cell.1)

-- whether a reply is an error
abbrev pub is_failed : Reply → Bool
is_failed answer.Done = false
is_failed (answer.Failed e) = true
is_failed (answer.Stat kind size) = false
is_failed (answer.Names names) = false
is_failed (answer.Bytes bytes) = false
is_failed (answer.Wrote count) = false
