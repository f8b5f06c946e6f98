-- The paths of a call, in the order in which they are walked, and the name that it may give to an entry.
use Rattle.std.specs.Prelude.{[], ◌∷◌, Option, Some, None}
use Rattle.fs_names.specs.Keys.{Key, last_of}
use Rattle.fs_names.specs.Names.{Name}
use Rattle.fs_names.specs.Shapes.{Shape}
use Rattle.fs_calls.specs.Forms.{Form, AtNode, AtEntry, AtPair, Rename, Exchange, new_shape}

-- the path that is walked first
abbrev pub first_path : Form → Key
first_path (AtNode c p) = p
first_path (AtEntry c p) = p
first_path (AtPair c p q) = p

-- the path that is walked second: for all calls but a pair the same one
abbrev pub second_path : Form → Key
second_path (AtNode c p) = p
second_path (AtEntry c p) = p
second_path (AtPair c p q) = q

-- the last name of a path, if it has one
abbrev pub last_name : Key → Option Name
last_name [] = None
last_name (x ∷ p) = Some (last_of (x ∷ p))

-- the same where a node may be added there
abbrev pub added_name : Option Shape → Key → Option Name
added_name None p = None
added_name (Some new) p = last_name p

-- the name that a call may give to an entry: that of a node which it adds, and of one that a rename moves. An exchange gives none
abbrev pub new_name : Form → Option Name
new_name (AtNode c p) = None
new_name (AtEntry c p) = added_name (new_shape c) p
new_name (AtPair (Rename most) p q) = last_name q
new_name (AtPair Exchange p q) = None
