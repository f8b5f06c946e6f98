-- What a call without an error finds in a tree.
use Rattle.std.proofs.Common.{◌≡◌, ◌≢◌, ℕ, ◌+◌, length, Bool, true, false, cond, ◌&&◌, ◌||◌, List, [], ◌∷◌, ◌++◌, Some, None, Option, is_some, refl, sym, subst}
use Rattle.std.specs.Prelude.{nat_lt}
use Rattle.fs_names.specs.Failures.{check, first_failure}
use Rattle.fs_names.specs.Names.{Name}
use Rattle.fs_names.specs.Keys.{Key, is_root, is_proper_prefix, after_prefix, parent_of}
use Rattle.fs_names.proofs.FailureLemmas.{or_else-none, check-none}
use Rattle.fs_names.specs.Limits.{entry_limit, file_limit}
use Rattle.fs_names.specs.declared.limits.Limits.{Limits}
use Rattle.fs_calls.specs.Tree as tree
use Rattle.fs_calls.specs.Tree.{Tree, Node, look, IsTree}
use Rattle.fs_calls.specs.Sights.{tree_shapes, shape_of, is_there, is_missing, is_dir, is_file, has_entries, has_any, is_full}
use Rattle.fs_calls.proofs.RowNames.{making}
use Rattle.fs_calls.specs.Forms.{form, by_text}
use Rattle.fs_calls.specs.Rows.{place_errors, has_room}
use Rattle.fs_calls.specs.Outcomes.{resolution, parents_resolution, row, fault}
use Rattle.fs_calls.specs.declared.call.Call.{Call}
use Rattle.fs_calls.specs.declared.call.Call.TheVariants.{Mkdir, Mknod, Unlink, Rmdir, Rename, Exchange, Write, Truncate}
use Rattle.fs_calls.specs.declared.errno.Errno.{Errno}
use Rattle.fs_calls.specs.declared.errno.Errno.TheVariants.{Enoent, Enotdir, Eexist, Enotempty, Eisdir, Einval, Ebusy, Eperm, Enospc, Efbig}
use Rattle.fs_calls.specs.Sights.{is_same}
use Rattle.fs_calls.proofs.KeyLemmas.{never_same, no_prefix}
use Rattle.fs_calls.proofs.ExchangedTrees.{Beside}
use Rattle.fs_calls.proofs.ResolutionLemmas.{nothing_below, empty_below, no_names, parents_resolution-none}

-- ---- checks in order

-- no check of several finds anything
abbrev pub AllNone : {F : Type 0} → List (Option F) → Type 0
AllNone [] = Unit {0}
AllNone (one ∷ others) = (one ≡ None) × AllNone others

-- where the first of several checks finds nothing, none does
pub all_none : {F : Type 0} (checks : List (Option F)) → first_failure checks ≡ None → AllNone checks
all_none [] e = tt
all_none (one ∷ others) e = let both = or_else-none one (first_failure others) e in (both.0, all_none others both.1)

-- of two tests of which neither is true, the first is false
pub or_first : (a b : Bool) → (a || b) ≡ false → a ≡ false
or_first true b e = absurd (cc)
or_first false b e = refl

-- and so is the second
pub or_second : (a b : Bool) → (a || b) ≡ false → b ≡ false
or_second true b e = absurd (cc)
or_second false b e = e

-- a call without an error has none by its paths alone
pub by_text_none : (limits : Limits) (t : Tree) (call : Call) → fault limits t call ≡ None → by_text (form limits call) ≡ None
unfolding fault
by_text_none limits t call h = (or_else-none (by_text (form limits call)) (row limits t call) h).0

-- and none by what is read
row_none : (limits : Limits) (t : Tree) (call : Call) → fault limits t call ≡ None → row limits t call ≡ None
unfolding fault
row_none limits t call h = (or_else-none (by_text (form limits call)) (row limits t call) h).1

-- ---- shapes

-- where nothing is seen, nothing stands
absent : (t : Tree) (k : Key) (o : Option Node) → is_there (shape_of t k o) ≡ false → o ≡ None
absent t k None e = refl
absent t k (Some tree.Dir) e = absurd (cc)
absent t k (Some (tree.File bytes)) e = absurd (cc)

-- what is seen and is no directory is none in the tree
no_directory : (t : Tree) (k : Key) (o : Option Node) → is_missing (shape_of t k o) ≡ false → is_dir (shape_of t k o) ≡ false → o ≢ Some tree.Dir
no_directory t k None e f = absurd (cc)
no_directory t k (Some tree.Dir) e f = absurd (cc)
no_directory t k (Some (tree.File bytes)) e f = λ same. absurd (cc)

-- where something is seen, something stands
some_there : (t : Tree) (k : Key) (o : Option Node) → is_missing (shape_of t k o) ≡ false → is_some o ≡ true
some_there t k None e = absurd (cc)
some_there t k (Some n) e = refl

-- whatever stands there has no entries, so nothing stands below
bare_below : (t : Tree) (k : Key) (o : Option Node) → IsTree t → look t k ≡ o → has_entries (shape_of t k o) ≡ false → (x : Name) (rest : Key) → look t (k ++ x ∷ rest) ≡ None
bare_below t k None is e f = nothing_below t k is (λ same. absurd (cc))
bare_below t k (Some tree.Dir) is e f = empty_below t k is (no_names t k f)
bare_below t k (Some (tree.File bytes)) is e f = nothing_below t k is (λ same. absurd (cc))

-- ---- calls

-- mkdir and mknod find a directory, and nothing at the path
pub record Makes (t : Tree) (p : Key) : Type 0 where
  pub named : is_root p ≡ false
  pub parent : look t (parent_of p) ≡ Some tree.Dir
  pub absent : look t p ≡ None

-- what both find, by their errors
makes : (most : ℕ) (t : Tree) (p : Key) → IsTree t → check (is_root p) Eexist ≡ None → making most (parents_resolution t p) (tree_shapes t (parent_of p)) (tree_shapes t p) ≡ None → Makes t p
makes most t p is text h =
    let none = all_none (parents_resolution t p ∷ check (is_there (tree_shapes t p)) Eexist ∷ check (is_full most (tree_shapes t (parent_of p))) Enospc ∷ []) h in
    record {
      named = check-none (is_root p) Eexist text;
      parent = parents_resolution-none t p is none.0;
      absent = absent t p (look t p) (check-none (is_there (tree_shapes t p)) Eexist none.1.0);
    }

-- what mkdir finds
pub mkdir_makes : (limits : Limits) (t : Tree) (p : Key) → IsTree t → fault limits t (Mkdir p) ≡ None → Makes t p
mkdir_makes limits t p is h = makes (entry_limit limits) t p is (by_text_none limits t (Mkdir p) h) (row_none limits t (Mkdir p) h)

-- what mknod finds
pub mknod_makes : (limits : Limits) (t : Tree) (p : Key) → IsTree t → fault limits t (Mknod p) ≡ None → Makes t p
mknod_makes limits t p is h = makes (entry_limit limits) t p is (by_text_none limits t (Mknod p) h) (row_none limits t (Mknod p) h)

-- unlink and rmdir find a node with nothing below it, which is not the root
pub record Removes (t : Tree) (p : Key) : Type 0 where
  pub named : is_root p ≡ false
  pub there : is_some (look t p) ≡ true
  pub bare : (x : Name) (rest : Key) → look t (p ++ x ∷ rest) ≡ None

-- what unlink finds
pub unlink_removes : (limits : Limits) (t : Tree) (p : Key) → IsTree t → fault limits t (Unlink p) ≡ None → Removes t p
unlink_removes limits t p is h =
    let none = all_none (parents_resolution t p ∷ check (is_missing (tree_shapes t p)) Enoent ∷ check (is_dir (tree_shapes t p)) Eperm ∷ []) (row_none limits t (Unlink p) h) in
    let missing = check-none (is_missing (tree_shapes t p)) Enoent none.1.0 in
    let dir = check-none (is_dir (tree_shapes t p)) Eperm none.1.1.0 in
    record {
      named = check-none (is_root p) Eperm (by_text_none limits t (Unlink p) h);
      there = some_there t p (look t p) missing;
      bare = nothing_below t p is (no_directory t p (look t p) missing dir);
    }

-- what rmdir finds
pub rmdir_removes : (limits : Limits) (t : Tree) (p : Key) → IsTree t → fault limits t (Rmdir p) ≡ None → Removes t p
rmdir_removes limits t p is h =
    let none = all_none (parents_resolution t p ∷ check (is_missing (tree_shapes t p)) Enoent ∷ check (is_file (tree_shapes t p)) Enotdir ∷ check (has_entries (tree_shapes t p)) Enotempty ∷ []) (row_none limits t (Rmdir p) h) in
    record {
      named = check-none (is_root p) Ebusy (by_text_none limits t (Rmdir p) h);
      there = some_there t p (look t p) (check-none (is_missing (tree_shapes t p)) Enoent none.1.0);
      bare = bare_below t p (look t p) is refl (check-none (has_entries (tree_shapes t p)) Enotempty none.1.1.1.0);
    }

-- write and truncate find a file
pub record Writes (t : Tree) (p : Key) : Type 0 where
  pub there : is_some (look t p) ≡ true
  pub no_dir : look t p ≢ Some tree.Dir

-- what both find, by their errors
writes : (t : Tree) (p : Key) (checks : List (Option Errno)) → IsTree t → first_failure (resolution t p ∷ check (is_missing (tree_shapes t p)) Enoent ∷ check (is_dir (tree_shapes t p)) Eisdir ∷ checks) ≡ None → Writes t p
writes t p checks is h =
    let none = all_none (resolution t p ∷ check (is_missing (tree_shapes t p)) Enoent ∷ check (is_dir (tree_shapes t p)) Eisdir ∷ checks) h in
    let missing = check-none (is_missing (tree_shapes t p)) Enoent none.1.0 in
    record {
      there = some_there t p (look t p) missing;
      no_dir = no_directory t p (look t p) missing (check-none (is_dir (tree_shapes t p)) Eisdir none.1.1.0);
    }

-- what write finds
pub write_writes : (limits : Limits) (t : Tree) (p : Key) (off : ℕ) (bytes : List ℕ) → IsTree t → fault limits t (Write p off bytes) ≡ None → Writes t p
write_writes limits t p off bytes is h = writes t p (check (has_any bytes && nat_lt (file_limit limits) (off + length bytes)) Efbig ∷ []) is (row_none limits t (Write p off bytes) h)

-- what truncate finds
pub truncate_writes : (limits : Limits) (t : Tree) (p : Key) (size : ℕ) → IsTree t → fault limits t (Truncate p size) ≡ None → Writes t p
truncate_writes limits t p size is h = writes t p (check (nat_lt (file_limit limits) size) Efbig ∷ []) is (row_none limits t (Truncate p size) h)

-- a rename that moves finds a node, a directory for its new place, and nothing below that place; neither path is the
-- root, and the node does not stand above its new place
pub record Renames (t : Tree) (p q : Key) : Type 0 where
  pub named : is_root p ≡ false
  pub new_named : is_root q ≡ false
  pub beside : after_prefix p q ≡ None
  pub new_parent : look t (parent_of q) ≡ Some tree.Dir
  pub there : is_some (look t p) ≡ true
  pub bare : (x : Name) (rest : Key) → look t (q ++ x ∷ rest) ≡ None

-- what a rename finds
pub rename_renames : (limits : Limits) (t : Tree) (p q : Key) → IsTree t → fault limits t (Rename p q) ≡ None → p ≢ q → Renames t p q
rename_renames limits t p q is h other =
    let text = all_none (check (is_root p || is_root q) Ebusy ∷ check (is_proper_prefix p q) Einval ∷ []) (by_text_none limits t (Rename p q) h) in
    let roots = check-none (is_root p || is_root q) Ebusy text.0 in
    let rest = place_errors (tree_shapes t p) (tree_shapes t q) (has_room (entry_limit limits) (is_same (parent_of p) (parent_of q)) (tree_shapes t (parent_of q))) in
    let none = all_none (parents_resolution t p ∷ parents_resolution t q ∷ check (is_missing (tree_shapes t p)) Enoent ∷ cond {A = List (Option Errno)} (is_same p q) [] rest) (row_none limits t (Rename p q) h) in
    let replaced : AllNone rest = subst (λ b. AllNone (cond {A = List (Option Errno)} b [] rest)) (never_same p q other) none.1.1.1 in
    record {
      named = or_first (is_root p) (is_root q) roots;
      new_named = or_second (is_root p) (is_root q) roots;
      beside = no_prefix p q (check-none (is_proper_prefix p q) Einval text.1.0) other;
      new_parent = parents_resolution-none t q is none.1.0;
      there = some_there t p (look t p) (check-none (is_missing (tree_shapes t p)) Enoent none.1.1.0);
      bare = bare_below t q (look t q) is refl (check-none (has_entries (tree_shapes t q)) Enotempty replaced.1.1.0);
    }

-- an exchange that moves finds both nodes in directories, neither of them the root and neither above the other
pub record Exchanges (t : Tree) (p q : Key) : Type 0 where
  pub named : is_root p ≡ false
  pub other_named : is_root q ≡ false
  pub beside : Beside p q
  pub parent : look t (parent_of p) ≡ Some tree.Dir
  pub other_parent : look t (parent_of q) ≡ Some tree.Dir

-- what an exchange finds
pub exchange_exchanges : (limits : Limits) (t : Tree) (p q : Key) → IsTree t → fault limits t (Exchange p q) ≡ None → p ≢ q → Exchanges t p q
exchange_exchanges limits t p q is h other =
    let text = all_none (check (is_root p || is_root q) Ebusy ∷ check (is_proper_prefix p q || is_proper_prefix q p) Einval ∷ []) (by_text_none limits t (Exchange p q) h) in
    let roots = check-none (is_root p || is_root q) Ebusy text.0 in
    let above = check-none (is_proper_prefix p q || is_proper_prefix q p) Einval text.1.0 in
    let none = all_none (parents_resolution t p ∷ parents_resolution t q ∷ check (is_missing (tree_shapes t p)) Enoent ∷ check (is_missing (tree_shapes t q)) Enoent ∷ []) (row_none limits t (Exchange p q) h) in
    record {
      named = or_first (is_root p) (is_root q) roots;
      other_named = or_second (is_root p) (is_root q) roots;
      beside = record {
        there = no_prefix p q (or_first (is_proper_prefix p q) (is_proper_prefix q p) above) other;
        back = no_prefix q p (or_second (is_proper_prefix p q) (is_proper_prefix q p) above) (λ e. other (sym e));
      };
      parent = parents_resolution-none t p is none.0;
      other_parent = parents_resolution-none t q is none.1.0;
    }
