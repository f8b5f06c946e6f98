-- Trees as maps from keys, and the changes of them.
use Rattle.std.specs.Prelude.{List, [], ◌∷◌, ◌++◌, Option, Some, None}
use Rattle.fs_names.specs.Keys.{Key, after_prefix}

-- what stands at each key: V is a shape, or a node's number
abbrev pub Map : Type 0 → Type 0
Map V = Key → Option V

-- the tree below a key
abbrev pub below : {V : Type 0} → Key → Map V → Map V
below k tree key = tree (k ++ key)

-- what stands at a key where f acts below k, by what follows k in the key
abbrev pub act_at : {V : Type 0} → (Map V → Map V) → Map V → Key → Key → Option Key → Option V
act_at f tree k key None = tree key
act_at f tree k key (Some rest) = f (below k tree) rest

-- f acts on the tree below k, and everything else stays as it is
abbrev pub act : {V : Type 0} → Key → (Map V → Map V) → Map V → Map V
act k f tree key = act_at f tree k key (after_prefix k key)

-- what stands at a key where one key gets the value v, by what follows that one
abbrev pub put_at : {V : Type 0} → Option V → Map V → Key → Option Key → Option V
put_at v tree key None = tree key
put_at v tree key (Some []) = v
put_at v tree key (Some (x ∷ rest)) = tree key

-- the value at one key is v, whatever it was
abbrev pub put : {V : Type 0} → Key → Option V → Map V → Map V
put k v tree key = put_at v tree key (after_prefix k key)

-- what stands at a key outside t after a move: below s nothing
abbrev pub moved_from : {V : Type 0} → Map V → Key → Option Key → Option V
moved_from tree key None = tree key
moved_from tree key (Some rest) = None

-- what stands at a key after a move: below t what stood below s
abbrev pub moved_to : {V : Type 0} → Key → Map V → Key → Option Key → Option V
moved_to s tree key None = moved_from tree key (after_prefix s key)
moved_to s tree key (Some rest) = tree (s ++ rest)

-- a key that begins with s begins with t instead, and what stood at t is gone
abbrev pub move : {V : Type 0} → Key → Key → Map V → Map V
move s t tree key = moved_to s tree key (after_prefix t key)

-- a key after an exchange of s and t, by what follows each of them in it
abbrev pub swapped_by : Key → Key → Key → Option Key → Option Key → Key
swapped_by s t key None None = key
swapped_by s t key None (Some rest) = s ++ rest
swapped_by s t key (Some rest) o = t ++ rest

-- a key that begins with s begins with t instead, and one that begins with t begins with s
abbrev pub swapped : Key → Key → Key → Key
swapped s t key = swapped_by s t key (after_prefix s key) (after_prefix t key)

-- what stood below s and what stood below t change places
abbrev pub swap : {V : Type 0} → Key → Key → Map V → Map V
swap s t tree key = tree (swapped s t key)

-- several writes, the first one first
abbrev pub write_all : {V : Type 0} → List (Key × Option V) → Map V → Map V
write_all [] tree = tree
write_all (w ∷ ws) tree = write_all ws (put w.0 w.1 tree)
