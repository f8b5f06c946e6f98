-- What holds of the definitions: laws, each proved as the contract of a function of the module `laws`.
use Rattle.std.specs.Prelude.{◌≡◌, ◌≢◌, ℕ, zero, suc, ◌*◌, min, take, List, [], ◌∷◌, ◌++◌, Some, None}
use Rattle.fs_names.specs.Names.{Name}
use Rattle.fs_names.specs.Keys.{Key, after_prefix}
use Rattle.fs_names.specs.declared.limits.Limits.{Limits}
use Rattle.fs_names.specs.Shapes.{Dir as HasNames}
use Rattle.fs_names.specs.declared.limits.TheConstants.{LIST_LIMIT}
use Rattle.fs_calls.specs.Tree.{Tree, Node, Dir, look, names_in, IsTree, root_tree}
use Rattle.fs_calls.specs.Forms.{ListAfter}
use Rattle.fs_calls.specs.Rows.{node_reply}
use Rattle.fs_calls.specs.Starts.{Start, start_tree}
use Rattle.fs_calls.specs.Outcomes.{fault, reply, after, play}
use Rattle.fs_calls.specs.declared.call.Call.{Call}
use Rattle.fs_calls.specs.declared.call.Call.TheVariants.{Rename, Exchange}
use Rattle.fs_calls.specs.declared.errno.Errno.{Errno}
use Rattle.fs_calls.specs.declared.reply.Reply.{Reply}
use Rattle.fs_calls.specs.declared.reply.Reply.TheVariants.{Names, Failed}

-- a call whose reply is an error leaves the tree
abbrev pub ErrorsChangeNothing : Type 0
ErrorsChangeNothing = (limits : Limits) (t : Tree) (call : Call) (e : Errno) → reply limits t call ≡ Failed e → after limits t call ≡ t

-- after a call, a tree is a tree
abbrev pub StaysATree : Type 0
StaysATree = (limits : Limits) (t : Tree) (call : Call) → IsTree t → IsTree (after limits t call)

-- what has something below it is a directory
abbrev pub HasDirectoriesAbove : Tree → Type 0
HasDirectoriesAbove t = (d : Key) (x : Name) (rest : Key) (n : Node) → look t (d ++ x ∷ rest) ≡ Some n → look t d ≡ Some Dir

-- in what is played from a tree the root is a directory, and so is each proper prefix of a key; the root alone is a tree
abbrev pub PlayedTreesAreTrees : Type 0
PlayedTreesAreTrees = IsTree root_tree × ((start : Start) (calls : List Call) → IsTree (start_tree start) → IsTree (play start calls) × HasDirectoriesAbove (play start calls))

-- trees in which the same stands at each key are one
abbrev pub SameTrees : Type 0
SameTrees = (s t : Tree) → IsTree s → IsTree t → ((k : Key) → look s k ≡ look t k) → s ≡ t

-- the second tree has at q and below it what the first has at p and below it, nothing at p and below it, and all else as it was
pub record IsMoved (old new : Tree) (p q : Key) : Type 0 where
  pub arrived : (rest : Key) → look new (q ++ rest) ≡ look old (p ++ rest)
  pub gone : (rest : Key) → look new (p ++ rest) ≡ None
  pub others : (k : Key) → after_prefix p k ≡ None → after_prefix q k ≡ None → look new k ≡ look old k

-- a rename without an error moves a node, with all below it, and one onto itself changes nothing
pub record RenamesMove : Type 0 where
  pub moved : (limits : Limits) (t : Tree) (p q : Key) → IsTree t → fault limits t (Rename p q) ≡ None → p ≢ q → IsMoved t (after limits t (Rename p q)) p q
  pub onto_itself : (limits : Limits) (t : Tree) (p : Key) → after limits t (Rename p p) ≡ t

-- the second tree has at each of p and q, and below it, what the first has at the other one, and all else as it was
pub record IsExchanged (old new : Tree) (p q : Key) : Type 0 where
  pub one : (rest : Key) → look new (q ++ rest) ≡ look old (p ++ rest)
  pub other : (rest : Key) → look new (p ++ rest) ≡ look old (q ++ rest)
  pub others : (k : Key) → after_prefix p k ≡ None → after_prefix q k ≡ None → look new k ≡ look old k

-- an exchange without an error lets two nodes change places, each with all below it, and one of a path with itself changes nothing
pub record ExchangesSwap : Type 0 where
  pub swapped : (limits : Limits) (t : Tree) (p q : Key) → IsTree t → fault limits t (Exchange p q) ≡ None → p ≢ q → IsExchanged t (after limits t (Exchange p q)) p q
  pub with_itself : (limits : Limits) (t : Tree) (p : Key) → after limits t (Exchange p p) ≡ t

-- ---- the pieces of a list

-- the names that a reply has
abbrev pub names_in_reply : Reply → List Name
names_in_reply (Names names) = names
names_in_reply r = []

-- behind which name the next piece is listed: the last of the piece, and what stood before if it has none
abbrev pub behind : Key → List Name → Key
behind after [] = after
behind after (x ∷ names) = behind (x ∷ []) names

-- so many pieces of a directory with these names, each listed behind the one before it
abbrev pub pieces : ℕ → ℕ → Key → List Name → List Name
pieces zero count after names = []
pieces (suc n) count after names =
    let piece = names_in_reply (node_reply (ListAfter after count) (Some (HasNames names))) in piece ++ pieces n count (behind after piece) names

-- each name has bytes
abbrev pub HaveBytes : List Name → Type 0
HaveBytes [] = Unit {0}
HaveBytes (x ∷ names) = (x ≡ [] → ⊥) × HaveBytes names

-- the pieces of a directory, one behind the other from the root on, are its names as far as they reach
abbrev pub PiecesAreAll : Type 0
PiecesAreAll = (t : Tree) (d : Key) (n count : ℕ) → IsTree t → HaveBytes (names_in t d) → pieces n count [] (names_in t d) ≡ take (n * min count LIST_LIMIT) (names_in t d)
