-- The sequential tree: a finite map from keys to what stands there.
use Rattle.std.specs.Prelude.{◌≡◌, ℕ, List, [], ◌∷◌, ◌++◌, not, map, Option, Some, None, IsTrue}
use Rattle.std.specs.FinMap.{find, put, is_sorted}
use Rattle.std.specs.FinMap.Entries.{where_key}
use Rattle.fs_names.specs.Names.{Name}
use Rattle.fs_names.specs.Keys.{Key, key_cmp, same_key, after_prefix}

-- a directory, or a file with its bytes
pub data Node : Type 0 where
  Dir : Node
  File : List ℕ → Node

-- keys in order, each with what stands there
abbrev pub Tree : Type 0
Tree = List (Key × Node)

-- what stands at a key
unfoldable pub look : Tree → Key → Option Node
look t k = find key_cmp k t

-- the keys rise, the root is a directory, and what is not the root stands in a directory
pub record IsTree (t : Tree) : Type 0 where
  pub sorted : IsTrue (is_sorted key_cmp t)
  pub root : look t [] ≡ Some Dir
  pub inside : (d : Key) (x : Name) (n : Node) → look t (d ++ x ∷ []) ≡ Some n → look t d ≡ Some Dir

-- the tree that holds only the root
abbrev pub root_tree : Tree
root_tree = ([], Dir) ∷ []

-- the one name that follows a prefix; None where none or more follow
abbrev pub only_name : Option Key → Option Name
only_name None = None
only_name (Some []) = None
only_name (Some (x ∷ [])) = Some x
only_name (Some (x ∷ y ∷ k)) = None

-- the name of a key in the directory d, where it is an entry of d
abbrev pub name_in : Key → Key → Option Name
name_in d k = only_name (after_prefix d k)

-- a list with one name more in front, if there is one
abbrev pub with_name : Option Name → List Name → List Name
with_name None names = names
with_name (Some x) names = x ∷ names

-- the names of the directory d, in byte order, since the tree's keys are in order
abbrev pub names_in : Tree → Key → List Name
names_in [] d = []
names_in (e ∷ t) d = with_name (name_in d e.0) (names_in t d)

-- one key has this node, whatever stood there
unfoldable pub inserted : Tree → Key → Node → Tree
inserted t k n = put key_cmp k n t

-- one key is gone
unfoldable pub removed : Tree → Key → Tree
removed t k = where_key key_cmp (λ e. not (same_key k e)) t

-- the prefix q before what followed another one; the key itself, where that was no prefix
abbrev pub with_prefix : Key → Key → Option Key → Key
with_prefix q k None = k
with_prefix q k (Some rest) = q ++ rest

-- a key with prefix p gets the prefix q instead
abbrev pub moved_key : Key → Key → Key → Key
moved_key p q k = with_prefix q k (after_prefix p k)

-- entries put in order one by one: of a key that stands twice the first one counts
abbrev pub from_list : List (Key × Node) → Tree
from_list [] = []
from_list (e ∷ es) = put key_cmp e.0 e.1 (from_list es)

-- keys with prefix p get the prefix q, q's old key is gone, all other keys stay
unfoldable pub renamed : Tree → Key → Key → Tree
renamed t p q = from_list (map (λ e. (moved_key p q e.0, e.1)) (removed t q))

-- a key with prefix p gets the prefix q instead, and one with prefix q the prefix p
abbrev pub exchanged_key : Key → Key → Key → Key
exchanged_key p q k = with_prefix q (moved_key q p k) (after_prefix p k)

-- keys with prefix p get the prefix q instead and keys with prefix q get p, all other keys stay
unfoldable pub exchanged : Tree → Key → Key → Tree
exchanged t p q = from_list (map (λ e. (exchanged_key p q e.0, e.1)) t)
