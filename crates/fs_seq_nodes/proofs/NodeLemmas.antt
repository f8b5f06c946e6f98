-- The nodes of a slab, and the graph that they are.
use Rattle.std.proofs.Common.{◌≡◌, ℕ, zero, suc, ◌+◌, ◌<◌, true, List, [], ◌∷◌, ◌++◌, length, map, take, drop, get_or, slice_get, Some, None, Option, is_some, IsSome, IsTrue, refl, sym, ap, subst, ◌∙◌, arith}
use Rattle.std.specs.FinMap.{find, is_sorted}
use Rattle.slab.specs.Slab.{Slab, get}
use Rattle.fs_blocks.specs.Files.{FileValue}
use Rattle.fs_names.specs.Names.{Name, name_cmp}
use Rattle.fs_names.specs.Keys.{Key, parent_of, last_of}
use Rattle.fs_calls.specs.declared.errno.Errno.TheVariants.{Enoent, Enotdir}
use Rattle.fs_seq_nodes.specs.declared.nodes.Link.{Link}
use Rattle.fs_seq_nodes.specs.declared.nodes.Node.{Node}
use Rattle.fs_seq_nodes.specs.declared.nodes.Node.TheVariants as nodes
use Rattle.fs_seq_nodes.specs.code.Slots.{Place, Dir, File, Slots, place_at, links_of, node_of, links_at, child, node_at}
use Rattle.fs_seq_nodes.specs.code.Nodes.{verdict, pairs, place, tree_node, slot_place, graph, number_of, name_of, IsNameAt}

-- the place of a number is that of its slot
pub place_of_slot : (slots : List (Option Node)) (n : ℕ) → place_at (map slot_place slots) n ≡ slot_place (get_or slots n None)
unfolding place_at
place_of_slot [] zero = refl
place_of_slot [] (suc n) = refl
place_of_slot (s ∷ slots) zero = refl
place_of_slot (s ∷ slots) (suc n) = place_of_slot slots n

-- the place of a node that was read
pub place_got : (s : Slab Node) (n : ℕ) (node : Node) → get s n ≡ Some node → place_at (graph s) n ≡ Some (place node)
place_got s n node e = place_of_slot s.slots n ∙ ap slot_place e

-- what a node is in a tree is what its place is
pub node_place : (node : Node) → node_of (Some (place node)) ≡ Some (tree_node node)
node_place (nodes.Dir links) = refl
node_place (nodes.File file) = refl

-- the place of a free slot
pub place_missing : (s : Slab Node) (n : ℕ) → get s n ≡ None → place_at (graph s) n ≡ None
place_missing s n e = place_of_slot s.slots n ∙ ap slot_place e

-- a slot with a place has a node
some_slot : (o : Option Node) → is_some (slot_place o) ≡ true → IsSome o
some_slot None e = absurd (cc)
some_slot (Some node) e = refl

-- a number with a place is a key of the slab
pub has_key : (s : Slab Node) (n : ℕ) → is_some (place_at (graph s) n) ≡ true → IsSome (get s n)
has_key s n e = some_slot (get s n) (ap is_some (sym (place_of_slot s.slots n)) ∙ e)

-- a slot with a node has a place
slot_used : (o : Option Node) → IsSome o → is_some (slot_place o) ≡ true
slot_used None h = absurd (cc)
slot_used (Some (nodes.Dir links)) h = refl
slot_used (Some (nodes.File file)) h = refl

-- a key of the slab is a number with a place
pub key_there : (s : Slab Node) (n : ℕ) → IsSome (get s n) → is_some (place_at (graph s) n) ≡ true
key_there s n h = ap is_some (place_of_slot s.slots n) ∙ slot_used (get s n) h

-- the links of a directory, and those of a file
pub links_got : (g : Slots) (n : ℕ) (o : Option Place) → place_at g n ≡ o → links_at g n ≡ links_of o
links_got g n o e = ap links_of e

-- a child of a place that was read
pub child_got : (g : Slots) (n : ℕ) (x : Name) (o : Option Place) → place_at g n ≡ o → child g n x ≡ find name_cmp x (links_of o)
unfolding child
child_got g n x o e = ap (λ z. find name_cmp x (links_of z)) e

-- links that rise where they stand rise
pub rising_got : (g : Slots) (n : ℕ) (o : Option Place) (links : List (Name × ℕ)) → IsTrue (is_sorted name_cmp (links_at g n)) → place_at g n ≡ o → links_of o ≡ links → IsTrue (is_sorted name_cmp links)
rising_got g n o links rising e f = subst (λ z. IsTrue (is_sorted name_cmp z)) (ap links_of e ∙ f) rising

-- the number of a link that was read
pub number_read : (links : List Link) (i : ℕ) (l : Link) → i < length (pairs links) → l ≡ get_or links i l → number_of (slice_get (pairs links) i) ≡ Some l.node
number_read [] i l h e = absurd (omega arith)
number_read (m ∷ links) zero l h e = ap (λ (z : Link). Some z.node) (sym e)
number_read (m ∷ links) (suc i) l h e = number_read links i l (omega arith) e

-- and its name
pub name_read : (links : List Link) (i : ℕ) (l : Link) → i < length (pairs links) → l ≡ get_or links i l → name_of (slice_get (pairs links) i) ≡ Some l.name
name_read [] i l h e = absurd (omega arith)
name_read (m ∷ links) zero l h e = ap (λ (z : Link). Some z.name) (sym e)
name_read (m ∷ links) (suc i) l h e = name_read links i l (omega arith) e

-- there are as many pairs as links
pub length-pairs : (links : List Link) → length (pairs links) ≡ length links
length-pairs [] = refl
length-pairs (l ∷ links) = ap suc (length-pairs links)

-- a step by a name that stands among the links
pub step_found : (g : Slots) (n : ℕ) (x : Name) (links : List (Name × ℕ)) (i m : ℕ) → place_at g n ≡ Some (Dir links) → IsNameAt links x i → number_of (slice_get links i) ≡ Some m → child g n x ≡ Some m
step_found g n x links i m at stands e = child_got g n x _ at ∙ stands.found ∙ e

-- a step by a name that does not, and a step from a file
pub step_missing : (g : Slots) (n : ℕ) (x : Name) (links : List (Name × ℕ)) → place_at g n ≡ Some (Dir links) → find name_cmp x links ≡ None → (child g n x ≡ None) × (verdict (node_at g n) ≡ Some Enoent)
step_missing g n x links at absent = (child_got g n x _ at ∙ absent, ap (λ o. verdict (node_of o)) at)

-- a step from a file
pub step_file : (g : Slots) (n : ℕ) (x : Name) (file : FileValue) → place_at g n ≡ Some (File file) → (child g n x ≡ None) × (verdict (node_at g n) ≡ Some Enotdir)
step_file g n x file at = (child_got g n x _ at, ap (λ o. verdict (node_of o)) at)

-- ---- paths by their parent and their last name

-- a front with one name more
pub take_snoc : (p : Key) (i : ℕ) (x : Name) → slice_get p i ≡ Some x → take (suc i) p ≡ take i p ++ x ∷ []
take_snoc [] i x e = absurd (cc)
take_snoc (y ∷ p) zero x e = let s : y ≡ x = cc in ap (λ z. z ∷ []) s
take_snoc (y ∷ p) (suc i) x e = ap (λ z. y ∷ z) (take_snoc p i x e)

-- a front of a path, cut at a name of it
pub take_around : (p : Key) (count i : ℕ) (x : Name) → i < count → slice_get p i ≡ Some x → take count p ≡ take i p ++ x ∷ drop (suc i) (take count p)
take_around [] count i x h e = absurd (cc)
take_around (y ∷ p) zero i x h e = absurd (omega arith)
take_around (y ∷ p) (suc count) zero x h e = let s : y ≡ x = cc in ap (λ z. z ∷ take count p) s
take_around (y ∷ p) (suc count) (suc i) x h e = ap (λ z. y ∷ z) (take_around p count i x (omega arith) e)

-- all names but the last are the parent
pub take_parent : (p : Key) (n : ℕ) → n + 1 ≡ length p → take n p ≡ parent_of p
take_parent [] n e = absurd (omega arith)
take_parent (x ∷ []) zero e = refl
take_parent (x ∷ []) (suc n) e = absurd (omega arith)
take_parent (x ∷ y ∷ p) zero e = absurd (omega arith)
take_parent (x ∷ y ∷ p) (suc n) e = ap (λ z. x ∷ z) (take_parent (y ∷ p) n (omega arith))

-- the name behind the parent is the last
pub last_got : (p : Key) (n : ℕ) (x : Name) → n + 1 ≡ length p → slice_get p n ≡ Some x → last_of p ≡ x
last_got [] n x e at = absurd (omega arith)
last_got (y ∷ []) zero x e at = cc
last_got (y ∷ []) (suc n) x e at = absurd (omega arith)
last_got (y ∷ z ∷ p) zero x e at = absurd (omega arith)
last_got (y ∷ z ∷ p) (suc n) x e at = last_got (z ∷ p) n x (omega arith) at

-- a path is its parent and its last name
pub parent_and_last : (p : Key) → 0 < length p → p ≡ parent_of p ++ last_of p ∷ []
parent_and_last [] h = absurd (omega arith)
parent_and_last (x ∷ []) h = refl
parent_and_last (x ∷ y ∷ p) h = ap (λ z. x ∷ z) (parent_and_last (y ∷ p) (omega arith))
