-- What a resolution without an error says, and what stands above and below a key of a tree.
use Rattle.std.proofs.Common.{◌≡◌, ◌≢◌, Bool, true, false, cond, ◌||◌, List, [], ◌∷◌, ◌++◌, Some, None, Option, is_some, refl, sym, ap, ◌∙◌, append_assoc}
use Rattle.std.specs.List.{list_any}
use Rattle.std.specs.FinMap.{find}
use Rattle.fs_names.specs.Failures.{check, first_failure}
use Rattle.fs_names.specs.Names.{Name, same_name}
use Rattle.fs_names.specs.Keys.{Key, key_cmp, same_key, after_prefix, parent_of}
use Rattle.fs_names.proofs.FailureLemmas.{or_else-none, check-none}
use Rattle.fs_names.proofs.Lemmas.{after_prefix-exact, after_prefix-append}
use Rattle.fs_calls.specs.Tree as tree
use Rattle.fs_calls.specs.Tree.{Tree, Node, look, names_in, name_in, only_name, with_name, IsTree}
use Rattle.fs_calls.specs.Sights.{tree_shapes, shape_of, is_missing, is_file, has_any}
use Rattle.fs_calls.specs.Outcomes.{resolution, parents_resolution}
use Rattle.fs_calls.specs.Laws.{HasDirectoriesAbove}
use Rattle.fs_calls.specs.declared.errno.Errno.TheVariants.{Enoent, Enotdir}
use Rattle.fs_calls.proofs.LookLemmas.{same_key_exact, look-find}
use Rattle.fs_calls.proofs.KeyLemmas.{no_true}
use Rattle.fs_calls.proofs.ListLemmas.{same_key-snoc}

-- ---- above and below

-- in a tree, what has something below it is a directory
pub directories_above : (t : Tree) → IsTree t → HasDirectoriesAbove t
directories_above t is d x [] n h = is.inside d x n h
directories_above t is d x (y ∷ rest) n h =
    let above : look t (d ++ x ∷ []) ≡ Some tree.Dir = directories_above t is (d ++ x ∷ []) y rest n (ap (look t) (append_assoc d (x ∷ []) (y ∷ rest)) ∙ h) in
    is.inside d x tree.Dir above

-- where no node can stand, none does
none_from : (o : Option Node) → ((n : Node) → o ≡ Some n → ⊥) → o ≡ None
none_from None h = refl
none_from (Some n) h = absurd (h n refl)

-- below what is no directory stands nothing
pub nothing_below : (t : Tree) (d : Key) → IsTree t → look t d ≢ Some tree.Dir → (x : Name) (rest : Key) → look t (d ++ x ∷ rest) ≡ None
nothing_below t d is other x rest = none_from (look t (d ++ x ∷ rest)) (λ n h. other (directories_above t is d x rest n h))

-- and nothing below a directory of which no name stands
pub empty_below : (t : Tree) (d : Key) → IsTree t → ((x : Name) → look t (d ++ x ∷ []) ≡ None) → (x : Name) (rest : Key) → look t (d ++ x ∷ rest) ≡ None
empty_below t d is empty x [] = empty x
empty_below t d is empty x (y ∷ rest) =
    ap (look t) (sym (append_assoc d (x ∷ []) (y ∷ rest)))
    ∙ nothing_below t (d ++ x ∷ []) is (λ e. let h = empty x in absurd (cc)) y rest

-- ---- the names of a directory

-- a key that is only a name is that name
only_name-exact : (o : Option Key) (x : Name) → only_name o ≡ Some x → o ≡ Some (x ∷ [])
only_name-exact None x e = absurd (cc)
only_name-exact (Some []) x e = absurd (cc)
only_name-exact (Some (y ∷ [])) x e = let s : y ≡ x = cc in ap (λ z. Some (z ∷ [])) s
only_name-exact (Some (y ∷ z ∷ k)) x e = absurd (cc)

-- a key with one name more has that name in the key
name_in-append : (d : Key) (x : Name) → name_in d (d ++ x ∷ []) ≡ Some x
name_in-append d x = ap only_name (after_prefix-append d (x ∷ []))

-- a key that has a name in a directory is the directory and the name
name_in-exact : (d k : Key) (x : Name) → name_in d k ≡ Some x → k ≡ d ++ x ∷ []
name_in-exact d k x e = after_prefix-exact d k (x ∷ []) (only_name-exact (after_prefix d k) x e)

-- either of two tests is true where the first finds a node or the second does
some_here : (b c : Bool) (n : Node) (o : Option Node) → c ≡ is_some o → (b || c) ≡ is_some (cond {A = Option Node} b (Some n) o)
some_here true c n o e = refl
some_here false c n o e = e

-- the name of an entry is counted where its key stands in the directory
with_entry : (d : Key) (x : Name) (e : Key × Node) (names : List Name) (o : Option Node) (name : Option Name) → name_in d e.0 ≡ name
    → list_any (same_name x) names ≡ is_some o → list_any (same_name x) (with_name name names) ≡ is_some (cond {A = Option Node} (same_key (d ++ x ∷ []) e.0) (Some e.1) o)
with_entry d x e names o None is rest =
    rest ∙ ap (λ b. is_some (cond {A = Option Node} b (Some e.1) o)) (sym (no_true (same_key (d ++ x ∷ []) e.0) (λ same.
    let some : name_in d e.0 ≡ Some x = ap (name_in d) (sym (same_key_exact (d ++ x ∷ []) e.0 same)) ∙ name_in-append d x in absurd (cc))))
with_entry d x e names o (Some y) is rest =
    some_here (same_name x y) (list_any (same_name x) names) e.1 o rest
    ∙ ap (λ b. is_some (cond {A = Option Node} b (Some e.1) o)) (sym (ap (same_key (d ++ x ∷ [])) (name_in-exact d e.0 y is) ∙ same_key-snoc d x y))

-- the names of a directory are those that have a node there
pub any-names_in : (t : Tree) (d : Key) (x : Name) → list_any (same_name x) (names_in t d) ≡ is_some (look t (d ++ x ∷ []))
any-names_in t d x = by_find t ∙ ap is_some (sym (look-find t (d ++ x ∷ [])))
  where
    by_find : (t : Tree) → list_any (same_name x) (names_in t d) ≡ is_some (find key_cmp (d ++ x ∷ []) t)
    by_find [] = refl
    by_find (e ∷ t) = with_entry d x e (names_in t d) (find key_cmp (d ++ x ∷ []) t) (name_in d e.0) refl (by_find t)

-- where no node is there is none
none_of : (o : Option Node) → is_some o ≡ false → o ≡ None
none_of None e = refl
none_of (Some n) e = absurd (cc)

-- among no names there is none that is the same
any_of_none : (x : Name) (names : List Name) → has_any names ≡ false → list_any (same_name x) names ≡ false
any_of_none x [] e = refl
any_of_none x (y ∷ names) e = absurd (cc)

-- in a directory without names no name has a node
pub no_names : (t : Tree) (d : Key) → has_any (names_in t d) ≡ false → (x : Name) → look t (d ++ x ∷ []) ≡ None
no_names t d none x = none_of (look t (d ++ x ∷ [])) (sym (any-names_in t d x) ∙ any_of_none x (names_in t d) none)

-- ---- resolution

-- what stands there and is seen as no file is a directory
dir_there : (t : Tree) (d : Key) (o : Option Node) → is_missing (shape_of t d o) ≡ false → is_file (shape_of t d o) ≡ false → o ≡ Some tree.Dir
dir_there t d None some no_file = absurd (cc)
dir_there t d (Some tree.Dir) some no_file = refl
dir_there t d (Some (tree.File bytes)) some no_file = absurd (cc)

-- where the parent resolves without an error it is a directory
pub parents_resolution-none : (t : Tree) (p : Key) → IsTree t → parents_resolution t p ≡ None → look t (parent_of p) ≡ Some tree.Dir
parents_resolution-none t p is h =
    let later = (or_else-none (resolution t (parent_of p)) (first_failure (check (is_missing (tree_shapes t (parent_of p))) Enoent ∷ check (is_file (tree_shapes t (parent_of p))) Enotdir ∷ [])) h).1 in
    let both = or_else-none (check (is_missing (tree_shapes t (parent_of p))) Enoent) (first_failure (check (is_file (tree_shapes t (parent_of p))) Enotdir ∷ [])) later in
    let there = check-none (is_missing (tree_shapes t (parent_of p))) Enoent both.0 in
    let no_file = check-none (is_file (tree_shapes t (parent_of p))) Enotdir (or_else-none (check (is_file (tree_shapes t (parent_of p))) Enotdir) None both.1).0 in
    dir_there t (parent_of p) (look t (parent_of p)) there no_file
