-- What each form of call replies and changes on a tree that is a map from keys.
use Rattle.std.specs.Prelude.{ℕ, Bool, true, false, List, [], ◌∷◌, Option, Some, None}
use Rattle.fs_names.specs.Keys.{Key, after_prefix, parent_of, last_of, is_end}
use Rattle.fs_names.specs.Names.{Name, inserted_name, removed_name}
use Rattle.fs_names.specs.Shapes.{Shape, Dir, File, names_of}
use Rattle.fs_names.specs.declared.limits.Limits.{Limits}
use Rattle.fs_calls.specs.Forms.{form, NodeCall, Form, AtNode, AtEntry, AtPair, by_text, EntryCall}
use Rattle.fs_calls.specs.Forms as pairs
use Rattle.fs_calls.specs.declared.call.Call.{Call}
use Rattle.fs_laws.specs.Maps.{Map, move, swap, write_all}
pub use Rattle.fs_calls.specs.Sights.{resolve, resolve_next, resolve_dir}
use Rattle.fs_calls.specs.Rows.{node_row, Edit, Keep, Add, Remove, entry_row, has_room, rename_row, exchange_row}
use Rattle.fs_calls.specs.declared.errno.Errno.{Errno}
use Rattle.fs_calls.specs.declared.reply.Reply.{Reply}
use Rattle.fs_calls.specs.declared.reply.Reply.TheVariants.{Failed}

-- where keys go: each stays, or those below one key go below another one, or those below two keys change places
pub data Rekeying : Type 0 where
  Stay : Rekeying
  MoveTo : Key → Key → Rekeying
  Swap : Key → Key → Rekeying

-- some writes, and then at most one move or one exchange
pub record Change : Type 0 where
  pub writes : List (Key × Option Shape)
  pub moves : Rekeying

-- a tree after a move or an exchange, if there is one
abbrev pub moved_by : Rekeying → Map Shape → Map Shape
moved_by Stay tree = tree
moved_by (MoveTo s t) tree = move s t tree
moved_by (Swap s t) tree = swap s t tree

-- what a change makes of a tree: first its writes, then its move
abbrev pub changed : Change → Map Shape → Map Shape
changed ch tree = moved_by ch.moves (write_all ch.writes tree)

-- nothing changes
abbrev pub no_change : Change
no_change = record { writes = []; moves = Stay }

-- some keys are written, and nothing moves
abbrev pub only : List (Key × Option Shape) → Change
only ws = record { writes = ws; moves = Stay }

-- the changes that the rows ask for: of the bytes of a file
abbrev pub content_change : Key → Option (List ℕ) → Change
content_change p None = no_change
content_change p (Some bytes) = only ((p, Some (File bytes)) ∷ [])

-- of an entry: its own key, and the names of its directory
abbrev pub edit_change : Key → List Name → Name → Key → Edit → Change
edit_change d names x p Keep = no_change
edit_change d names x p (Add shape) = only ((d, Some (Dir (inserted_name x names))) ∷ (p, Some shape) ∷ [])
edit_change d names x p Remove = only ((d, Some (Dir (removed_name x names))) ∷ (p, None) ∷ [])

-- both parents' names: one write where they are the same
abbrev pub rename_writes : Bool → Key → List Name → Name → Key → List Name → Name → List (Key × Option Shape)
rename_writes true d names x e others y = (d, Some (Dir (inserted_name y (removed_name x names)))) ∷ []
rename_writes false d names x e others y = (d, Some (Dir (removed_name x names))) ∷ (e, Some (Dir (inserted_name y others))) ∷ []

-- a rename that moves
abbrev pub move_change : Bool → List (Key × Option Shape) → Key → Key → Change
move_change false ws p q = no_change
move_change true ws p q = record { writes = ws; moves = MoveTo p q }

-- an exchange that moves: no names change
abbrev pub swap_change : Bool → Key → Key → Change
swap_change false p q = no_change
swap_change true p q = record { writes = []; moves = Swap p q }

-- the reply to a call on a node, and its change, by what it reads on the tree
abbrev pub node_looked : Map Shape → NodeCall → Key → Reply × Change
node_looked tree c p = let r : Reply × Option (List ℕ) = node_row c (resolve tree p) (tree p) in (r.0, content_change p r.1)

-- the same of a call on an entry of the directory d
abbrev pub entry_looked : Map Shape → EntryCall → Key → Key → Name → Reply × Change
entry_looked tree c p d x = let r : Reply × Edit = entry_row c (resolve_dir tree d) (tree d) (tree p) in (r.0, edit_change d (names_of (tree d)) x p r.1)

-- the same of a rename from the directory d to the directory e
abbrev pub rename_looked : Map Shape → ℕ → Key → Key → Key → Name → Key → Name → Reply × Change
rename_looked tree most p q d x e y =
    let r : Reply × Bool = rename_row (resolve_dir tree d) (resolve_dir tree e) (tree p) (is_end (after_prefix p q)) (tree q) (has_room most (is_end (after_prefix d e)) (tree e)) in
    (r.0, move_change r.1 (rename_writes (is_end (after_prefix d e)) d (names_of (tree d)) x e (names_of (tree e)) y) p q)

-- the same of an exchange of entries of the directories d and e
abbrev pub exchange_looked : Map Shape → Key → Key → Key → Key → Reply × Change
exchange_looked tree p q d e =
    let r : Reply × Bool = exchange_row (resolve_dir tree d) (resolve_dir tree e) (tree p) (is_end (after_prefix p q)) (tree q) in
    (r.0, swap_change r.1 p q)

-- the same of each form of call
abbrev pub looked : Map Shape → Form → Reply × Change
looked tree (AtNode c p) = node_looked tree c p
looked tree (AtEntry c p) = entry_looked tree c p (parent_of p) (last_of p)
looked tree (AtPair (pairs.Rename most) p q) = rename_looked tree most p q (parent_of p) (last_of p) (parent_of q) (last_of q)
looked tree (AtPair pairs.Exchange p q) = exchange_looked tree p q (parent_of p) (parent_of q)

-- what the paths alone decide comes first
abbrev pub if_sound : Option Errno → Reply × Change → Reply × Change
if_sound (Some e) o = (Failed e, no_change)
if_sound None o = o

-- the reply and the change
abbrev pub outcome : Map Shape → Form → Reply × Change
outcome tree call = if_sound (by_text call) (looked tree call)

-- the reply
abbrev pub reply : Map Shape → Form → Reply
reply tree call = (outcome tree call).0

-- the tree after the call
abbrev pub after : Map Shape → Form → Map Shape
after tree call = changed (outcome tree call).1 tree

-- the tree after a list of calls
abbrev pub play : Limits → Map Shape → List Call → Map Shape
play limits tree [] = tree
play limits tree (call ∷ calls) = play limits (after tree (form limits call)) calls
