-- How many entries a tree has: a call adds one at most, and a directory has no more.
use Rattle.std.proofs.Common.{◌≡◌, ℕ, ◌+◌, ◌≤◌, Bool, true, false, cond, List, [], ◌∷◌, map, length, Some, None, Option, arith, T, is_some}
use Rattle.std.proofs.lemmas.Float.{T_from_true}
use Rattle.std.proofs.lemmas.Bool.{lt-leb}
use Rattle.std.proofs.lemmas.List.{length-map}
use Rattle.std.specs.FinMap.{find, put, is_sorted}
use Rattle.std.specs.FinMap.Entries.{length-put, length_without}
use Rattle.fs_names.specs.Names.{Name}
use Rattle.fs_names.specs.Keys.{Key, key_cmp}
use Rattle.fs_names.proofs.Lemmas.{key_total}
use Rattle.fs_calls.specs.Tree as tree
use Rattle.fs_calls.specs.Tree.{Tree, Node, IsTree, from_list, inserted, removed, renamed, exchanged, moved_key, exchanged_key, names_in, name_in, with_name, look}
use Rattle.fs_calls.specs.Sights.{tree_shapes, shape_of, names_of, is_full, is_same}
use Rattle.fs_calls.specs.Forms.{Form, AtNode, AtEntry, AtPair, new_shape}
use Rattle.fs_calls.specs.Forms as pairs
use Rattle.fs_calls.specs.Rows.{new_bytes, Edit, Keep, Add, Remove, edit_of}
use Rattle.fs_calls.specs.Outcomes.{change_of, filled, edited, node_of, if_sound}
use Rattle.fs_calls.specs.declared.errno.Errno.{Errno}
use Rattle.fs_calls.proofs.LookLemmas.{sorted-from_list}
use Rattle.fs_linearize_histories.proofs.ChangingLemmas.{fault_of, after_of}

-- ---- a call

one_of : (b : Bool) (n : ℕ) → cond b n (n + 1) ≤ n + 1
one_of true n = omega arith
one_of false n = omega arith

put_adds : (t : Tree) (k : Key) (n : Node) → T (is_sorted key_cmp t) → length (put key_cmp k n t) ≤ length t + 1
put_adds t k n rises =
    let long = length-put key_cmp key_total k n t rises in
    let small = one_of (is_some (find key_cmp k t)) (length t) in
    omega (arith, long, small)

inserted_adds : (t : Tree) (k : Key) (n : Node) → T (is_sorted key_cmp t) → length (inserted t k n) ≤ length t + 1
unfolding inserted
inserted_adds t k n rises = put_adds t k n rises

removed_adds : (t : Tree) (k : Key) → T (is_sorted key_cmp t) → length (removed t k) ≤ length t
unfolding removed
removed_adds t k rises = let long = length_without key_cmp key_total k t rises in omega (arith, long)

listed_adds : (es : List (Key × Node)) → length (from_list es) ≤ length es
listed_adds [] = omega arith
listed_adds (e ∷ es) =
    let rest = listed_adds es in
    let more = put_adds (from_list es) e.0 e.1 (sorted-from_list es) in
    omega (arith, rest, more)

renamed_adds : (t : Tree) (p q : Key) → T (is_sorted key_cmp t) → length (renamed t p q) ≤ length t
unfolding renamed
renamed_adds t p q rises =
    let es = map (λ (e : Key × Node). (moved_key p q e.0, e.1)) (removed t q) in
    let listed = listed_adds es in
    let same = length-map {B = Key × Node} (removed t q) (λ (e : Key × Node). (moved_key p q e.0, e.1)) in
    let left = removed_adds t q rises in
    omega (arith, listed, same, left)

exchanged_adds : (t : Tree) (p q : Key) → length (exchanged t p q) ≤ length t
unfolding exchanged
exchanged_adds t p q =
    let es = map (λ (e : Key × Node). (exchanged_key p q e.0, e.1)) t in
    let listed = listed_adds es in
    let same = length-map {B = Key × Node} t (λ (e : Key × Node). (exchanged_key p q e.0, e.1)) in
    omega (arith, listed, same)

filled_adds : (t : Tree) (p : Key) (o : Option (List ℕ)) → T (is_sorted key_cmp t) → length (filled t p o) ≤ length t + 1
filled_adds t p None rises = omega arith
filled_adds t p (Some bytes) rises = inserted_adds t p (tree.File bytes) rises

edited_adds : (t : Tree) (p : Key) (e : Edit) → T (is_sorted key_cmp t) → length (edited t p e) ≤ length t + 1
edited_adds t p Keep rises = omega arith
edited_adds t p (Add shape) rises = inserted_adds t p (node_of shape) rises
edited_adds t p Remove rises = let left = removed_adds t p rises in omega (arith, left)

either_adds : (b : Bool) (t new : Tree) → length new ≤ length t → length (cond {A = Tree} b t new) ≤ length t + 1
either_adds true t new less = omega arith
either_adds false t new less = omega (arith, less)

change_adds : (t : Tree) (f : Form) → T (is_sorted key_cmp t) → length (change_of t f) ≤ length t + 1
change_adds t (AtNode c p) rises = filled_adds t p (new_bytes c (tree_shapes t p)) rises
change_adds t (AtEntry c p) rises = edited_adds t p (edit_of (new_shape c)) rises
change_adds t (AtPair (pairs.Rename most) p q) rises = either_adds (is_same p q) t (renamed t p q) (renamed_adds t p q rises)
change_adds t (AtPair pairs.Exchange p q) rises = either_adds (is_same p q) t (exchanged t p q) (exchanged_adds t p q)

sound_adds : (found : Option Errno) (t new : Tree) → length new ≤ length t + 1 → length (if_sound found t new) ≤ length t + 1
sound_adds None t new less = less
sound_adds (Some e) t new less = omega arith

-- a call adds one entry at most
pub after_adds : (t : Tree) (f : Form) → IsTree t → length (after_of t f) ≤ length t + 1
after_adds t f is = sound_adds (fault_of t f) t (change_of t f) (change_adds t f (T_from_true _ is.sorted))

-- ---- a directory

one_name : (o : Option Name) (names : List Name) → length (with_name o names) ≤ length names + 1
one_name None names = omega arith
one_name (Some x) names = omega arith

few_names : (t : Tree) (d : Key) → length (names_in t d) ≤ length t
few_names [] d = omega arith
few_names (e ∷ t) d =
    let rest = few_names t d in
    let more = one_name (name_in d e.0) (names_in t d) in
    omega (arith, rest, more)

few_seen : (t : Tree) (d : Key) (o : Option Node) → length (names_of (shape_of t d o)) ≤ length t
few_seen t d None = omega arith
few_seen t d (Some tree.Dir) = few_names t d
few_seen t d (Some (tree.File bytes)) = omega arith

-- a tree of few entries has no full directory
pub never_full : (most : ℕ) (t : Tree) (d : Key) → length t + 1 ≤ most → is_full most (tree_shapes t d) ≡ false
never_full most t d room =
    let few = few_seen t d (look t d) in
    lt-leb most (length (names_of (tree_shapes t d))) (omega (arith, few, room))
