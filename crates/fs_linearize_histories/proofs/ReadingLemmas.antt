-- What a call reads of a tree: what stands above its paths, at them and below them, and whether their parents are full.
use Rattle.std.proofs.Common.{◌≡◌, ℕ, Bool, true, false, cond, ◌||◌, not, List, [], ◌∷◌, ◌++◌, Some, None, Option, is_some, refl, sym, ap, subst, ◌∙◌, append_assoc, append-nil}
use Rattle.std.proofs.lemmas.Float.{T_from_true}
use Rattle.std.specs.List.{list_any, AllByRecursion}
use Rattle.std.specs.FinMap.{find}
use Rattle.fs_names.specs.Failures.{check, first_failure}
use Rattle.fs_names.specs.Names.{Name, name_cmp, same_name}
use Rattle.fs_names.specs.Keys.{Key, parent_of, last_of}
use Rattle.fs_names.specs.Limits.{entry_limit}
use Rattle.fs_names.specs.declared.limits.Limits.{Limits}
use Rattle.fs_calls.specs.Tree as tree
use Rattle.fs_calls.specs.Tree.{Tree, Node, look, names_in, IsTree}
use Rattle.fs_calls.specs.Sights.{Shape, Dir, File, Sight, tree_shapes, shape_of, is_there, is_missing, is_file, is_full, resolve_next, resolve, resolve_dir, is_same, row_in}
use Rattle.fs_calls.specs.Forms.{Form, AtNode, AtEntry, AtPair}
use Rattle.fs_calls.specs.Forms as forms
use Rattle.fs_calls.specs.Rows.{node_fault, rename_fault, exchange_fault, node_reply}
use Rattle.fs_calls.specs.Outcomes.{reply_of}
use Rattle.fs_calls.specs.declared.errno.Errno.{Errno}
use Rattle.fs_calls.specs.declared.errno.Errno.TheVariants.{Enoent, Enotdir, Eexist, Enospc}
use Rattle.fs_calls.proofs.FormLemmas.{LimitedTo}
use Rattle.fs_calls.proofs.KeyLemmas.{parent_and_last}
use Rattle.fs_calls.proofs.ResolutionLemmas.{any-names_in}
use Rattle.fs_calls.proofs.RowNames.{making, unlinking, removing}
use Rattle.fs_calls.proofs.Children.{marked, sorted-names_in, names_in-links}
use Rattle.fs_linearize_histories.specs.Meeting.{paths_in}

-- ---- resolution

-- what resolution sees of a node
record Alike (a b : Option Shape) : Type 0 where
  pub missing : is_missing a ≡ is_missing b
  pub file : is_file a ≡ is_file b

next_by : Bool → Bool → Bool → Option Errno → Option Errno
next_by missing file none rest = cond missing (Some Enoent) (cond file (Some Enotdir) (cond none (Some Enoent) rest))

next_is : (a c : Option Shape) (rest : Option Errno) → resolve_next a c rest ≡ next_by (is_missing a) (is_file a) (is_missing c) rest
unfolding next_by
next_is None c rest = refl
next_is (Some (File bytes)) c rest = refl
next_is (Some (Dir names)) None rest = refl
next_is (Some (Dir names)) (Some c) rest = refl

resolve_alike : (f g : Sight) (p : Key) → ((k r : Key) → p ≡ k ++ r → Alike (f k) (g k)) → resolve f p ≡ resolve g p
resolve_alike f g [] h = refl
resolve_alike f g (x ∷ p) h =
    let here = h [] (x ∷ p) refl in
    let next = h (x ∷ []) p refl in
    let rest = resolve_alike (λ k. f (x ∷ k)) (λ k. g (x ∷ k)) p (λ k r e. h (x ∷ k) r (ap (λ q. x ∷ q) e)) in
    next_is (f []) (f (x ∷ [])) (resolve (λ k. f (x ∷ k)) p)
    ∙ (λ i. next_by (here.missing i) (here.file i) (next.missing i) (rest i))
    ∙ sym (next_is (g []) (g (x ∷ [])) (resolve (λ k. g (x ∷ k)) p))

dir_alike : (f g : Sight) (d : Key) → ((k r : Key) → d ≡ k ++ r → Alike (f k) (g k)) → resolve_dir f d ≡ resolve_dir g d
dir_alike f g d h =
    let found = resolve_alike f g d h in
    let here = h d [] (sym (append-nil d)) in
    λ i. first_failure (found i ∷ check (here.missing i) Enoent ∷ check (here.file i) Enotdir ∷ [])

-- ---- what is seen of trees

missing_still : (s t : Tree) (k : Key) (o : Option Node) → is_missing (shape_of s k o) ≡ is_missing (shape_of t k o)
missing_still s t k None = refl
missing_still s t k (Some tree.Dir) = refl
missing_still s t k (Some (tree.File bytes)) = refl

file_still : (s t : Tree) (k : Key) (o : Option Node) → is_file (shape_of s k o) ≡ is_file (shape_of t k o)
file_still s t k None = refl
file_still s t k (Some tree.Dir) = refl
file_still s t k (Some (tree.File bytes)) = refl

seen_alike : (s t : Tree) (k : Key) → look s k ≡ look t k → Alike (tree_shapes s k) (tree_shapes t k)
seen_alike s t k same = record {
  missing = missing_still s t k (look s k) ∙ ap (λ o. is_missing (shape_of t k o)) same;
  file = file_still s t k (look s k) ∙ ap (λ o. is_file (shape_of t k o)) same;
}

-- names are found as they are tested
found_marked : (x : Name) (names : List Name) → is_some (find name_cmp x (marked names)) ≡ list_any (same_name x) names
found_marked x [] = refl
found_marked x (y ∷ names) = elim (same_name x y) as (λ b. is_some (cond {A = Option ℕ} b (Some 0) (find name_cmp x (marked names))) ≡ (b || list_any (same_name x) names)) [ true ↦ refl | false ↦ found_marked x names ]

-- directories with the same entries have the same names
names_agree : (s t : Tree) (d : Key) → IsTree s → IsTree t → ((x : Name) → look s (d ++ x ∷ []) ≡ look t (d ++ x ∷ [])) → names_in s d ≡ names_in t d
names_agree s t d one other same =
    let links = marked (names_in s d) in
    let found : (x : Name) → is_some (look s (d ++ x ∷ [])) ≡ is_some (find name_cmp x links) = λ x. sym (any-names_in s d x) ∙ sym (found_marked x (names_in s d)) in
    let rises = sorted-names_in s d (T_from_true _ one.sorted) in
    names_in-links s d links (T_from_true _ one.sorted) rises found
    ∙ sym (names_in-links t d links (T_from_true _ other.sorted) rises (λ x. ap is_some (sym (same x)) ∙ found x))

shape_with : (s t : Tree) (k : Key) (o : Option Node) → names_in s k ≡ names_in t k → shape_of s k o ≡ shape_of t k o
shape_with s t k None e = refl
shape_with s t k (Some tree.Dir) e = ap (λ names. Some (Dir names)) e
shape_with s t k (Some (tree.File bytes)) e = refl

pub shapes_agree : (s t : Tree) (k : Key) → IsTree s → IsTree t → look s k ≡ look t k → ((x : Name) → look s (k ++ x ∷ []) ≡ look t (k ++ x ∷ [])) → tree_shapes s k ≡ tree_shapes t k
shapes_agree s t k one other here below = shape_with s t k (look s k) (names_agree s t k one other below) ∙ ap (shape_of t k) here

-- ---- calls

-- two trees agree in what a call reads, by these limits, for one of its paths
pub record AgreesAt (limits : Limits) (s t : Tree) (p : Key) : Type 0 where
  pub above : (k r : Key) → p ≡ k ++ r → look s k ≡ look t k
  pub below : (r : Key) → look s (p ++ r) ≡ look t (p ++ r)
  pub full : is_full (entry_limit limits) (tree_shapes s (parent_of p)) ≡ is_full (entry_limit limits) (tree_shapes t (parent_of p))

pub parent_front : (p : Key) → (r : Key) × (p ≡ parent_of p ++ r)
parent_front [] = ([], refl)
parent_front (x ∷ p) = (last_of (x ∷ p) ∷ [], parent_and_last (x ∷ p) refl)

found_agrees : (limits : Limits) (s t : Tree) (p : Key) → AgreesAt limits s t p → resolve (tree_shapes s) p ≡ resolve (tree_shapes t) p
found_agrees limits s t p a = resolve_alike (tree_shapes s) (tree_shapes t) p (λ k r e. seen_alike s t k (a.above k r e))

parent_agrees : (limits : Limits) (s t : Tree) (p : Key) → AgreesAt limits s t p → resolve_dir (tree_shapes s) (parent_of p) ≡ resolve_dir (tree_shapes t) (parent_of p)
parent_agrees limits s t p a =
    let front = parent_front p in
    dir_alike (tree_shapes s) (tree_shapes t) (parent_of p) (λ k r e. seen_alike s t k (a.above k (r ++ front.0) (front.1 ∙ ap (λ d. d ++ front.0) e ∙ append_assoc k r front.0)))

pub seen_agrees : (limits : Limits) (s t : Tree) (p : Key) → IsTree s → IsTree t → AgreesAt limits s t p → tree_shapes s p ≡ tree_shapes t p
seen_agrees limits s t p one other a = shapes_agree s t p one other (a.above p [] (sym (append-nil p))) (λ x. a.below (x ∷ []))

-- a directory is full in both or in neither
full_agrees : (limits : Limits) (most : ℕ) (s t : Tree) (p : Key) → most ≡ entry_limit limits → AgreesAt limits s t p → is_full most (tree_shapes s (parent_of p)) ≡ is_full most (tree_shapes t (parent_of p))
full_agrees limits most s t p has a = subst (λ n. is_full n (tree_shapes s (parent_of p)) ≡ is_full n (tree_shapes t (parent_of p))) (sym has) a.full

-- the first error of mkdir and mknod
made : (limits : Limits) (most : ℕ) (s t : Tree) (p : Key) → most ≡ entry_limit limits → IsTree s → IsTree t → AgreesAt limits s t p
    → making most (resolve_dir (tree_shapes s) (parent_of p)) (tree_shapes s (parent_of p)) (tree_shapes s p) ≡ making most (resolve_dir (tree_shapes t) (parent_of p)) (tree_shapes t (parent_of p)) (tree_shapes t p)
made limits most s t p has one other a = λ i. first_failure
    (parent_agrees limits s t p a i ∷ check (is_there (seen_agrees limits s t p one other a i)) Eexist ∷ check (full_agrees limits most s t p has a i) Enospc ∷ [])

-- the first error of a call
pub row_agrees : (limits : Limits) (s t : Tree) (f : Form) → LimitedTo limits f → IsTree s → IsTree t → AllByRecursion (AgreesAt limits s t) (paths_in f) → row_in (tree_shapes s) f ≡ row_in (tree_shapes t) f
row_agrees limits s t (AtNode c p) has one other a = λ i. node_fault c (found_agrees limits s t p a.0 i) (seen_agrees limits s t p one other a.0 i)
row_agrees limits s t (AtEntry (forms.Mkdir most) p) has one other a = made limits most s t p has one other a.0
row_agrees limits s t (AtEntry (forms.Mknod most) p) has one other a = made limits most s t p has one other a.0
row_agrees limits s t (AtEntry forms.Unlink p) has one other a = λ i. unlinking (parent_agrees limits s t p a.0 i) (seen_agrees limits s t p one other a.0 i)
row_agrees limits s t (AtEntry forms.Rmdir p) has one other a = λ i. removing (parent_agrees limits s t p a.0 i) (seen_agrees limits s t p one other a.0 i)
row_agrees limits s t (AtPair (forms.Rename most) p q) has one other a =
    λ i. rename_fault (parent_agrees limits s t p a.0 i) (parent_agrees limits s t q a.1.0 i) (seen_agrees limits s t p one other a.0 i) (is_same p q) (seen_agrees limits s t q one other a.1.0 i) (is_same (parent_of p) (parent_of q) || not (full_agrees limits most s t q has a.1.0 i))
row_agrees limits s t (AtPair forms.Exchange p q) has one other a =
    λ i. exchange_fault (parent_agrees limits s t p a.0 i) (parent_agrees limits s t q a.1.0 i) (seen_agrees limits s t p one other a.0 i) (seen_agrees limits s t q one other a.1.0 i)

-- its reply without an error
pub reply_agrees : (limits : Limits) (s t : Tree) (f : Form) → IsTree s → IsTree t → AllByRecursion (AgreesAt limits s t) (paths_in f) → reply_of s f ≡ reply_of t f
reply_agrees limits s t (AtNode c p) one other a = ap (node_reply c) (seen_agrees limits s t p one other a.0)
reply_agrees limits s t (AtEntry c p) one other a = refl
reply_agrees limits s t (AtPair (forms.Rename most) p q) one other a = refl
reply_agrees limits s t (AtPair forms.Exchange p q) one other a = refl
