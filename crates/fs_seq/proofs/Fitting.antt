-- Rows of which each one fits, and trees within the limits.
use Rattle.std.proofs.Common.{◌≡◌, ℕ, suc, ◌+◌, ◌≤◌, Bool, true, false, cond, ◌&&◌, not, List, [], ◌∷◌, ◌++◌, length, map, Some, None, Option, refl, sym, ap, subst, ◌∙◌, arith, T, Less, append_assoc, append-nil, length-append, IsTrue}
use Rattle.std.specs.Prelude.{nat_le}
use Rattle.std.specs.List.{list_all}
use Rattle.std.specs.Ordering.{is_eq, is_lt, ordering_then}
use Rattle.std.specs.FinMap.{find, is_sorted}
use Rattle.std.specs.FinMap.Entries.{below_all}
use Rattle.std.proofs.lemmas.Bool.Decides.{nat_tests}
use Rattle.std.proofs.lemmas.Cmp.{tied_itself}
use Rattle.fs_names.specs.Limits.{entry_limit, file_limit}
use Rattle.fs_names.specs.Names.{Name}
use Rattle.fs_names.specs.Keys.{Key, key_cmp, same_key, after_prefix, is_root, parent_of, last_of}
use Rattle.fs_names.specs.declared.kind.Kind.{Kind}
use Rattle.fs_names.specs.declared.kind.Kind.TheVariants as kinds
use Rattle.fs_names.proofs.Lemmas.{name_total, key_total, after_prefix-append, after_prefix-exact}
use Rattle.fs_names.proofs.LimitLemmas.{some_entries}
use Rattle.fs_names.specs.declared.limits.Limits.{Limits}
use Rattle.fs_calls.specs.Tree.{Node, Dir, File, Tree, IsTree, look, root_tree, inserted, names_in, name_in, only_name, with_name}
use Rattle.fs_calls.specs.Sights.{tree_shapes, is_dir, is_full, has_any}
use Rattle.fs_calls.specs.Sights as shapes
use Rattle.fs_calls.proofs.KeyLemmas.{parent_of-snoc, parent_and_last}
use Rattle.fs_calls.proofs.ListLemmas.{true_T}
use Rattle.fs_calls.proofs.LookLemmas.{same_key_refl, look-inserted, look-find}
use Rattle.fs_calls.proofs.TreeLaws.{tree-inserted, played_trees_are_trees}
use Rattle.fs_seq.specs.declared.rows.Row.{Row}
use Rattle.fs_seq.specs.Rows.{key_of, row_of, node_of_kind, may_have, is_dirs, is_plain, is_first, last_key, fits, fits_at, misfit_from, misfit, IsWithinLimits}
use Rattle.fs_seq.specs.RowLaws.{FittingRowsAreTrees}
use Rattle.fs_seq.proofs.Appended.{AllBelow, above, all_below, look-above, inserted-last, not_below_root, in_order, first_holds, second_holds, both_hold}
use Rattle.fs_seq_nodes.proofs.SearchLemmas.{both_first, both_second, is_less}

-- ---- names of a directory in a tree and its end

with_name-append : (o : Option Name) (a b : List Name) → with_name o (a ++ b) ≡ with_name o a ++ b
with_name-append None a b = refl
with_name-append (Some x) a b = refl

names_in-append : (t u : Tree) (d : Key) → names_in (t ++ u) d ≡ names_in t d ++ names_in u d
names_in-append [] u d = refl
names_in-append (e ∷ t) u d = ap (with_name (name_in d e.0)) (names_in-append t u d) ∙ with_name-append (name_in d e.0) (names_in t d) (names_in u d)

-- a key that has a name in a directory
name_in-parent : (d k : Key) (x : Name) (o : Option Key) → o ≡ after_prefix d k → only_name o ≡ Some x → parent_of k ≡ d
name_in-parent d k x None e h = absurd (cc)
name_in-parent d k x (Some []) e h = absurd (cc)
name_in-parent d k x (Some (y ∷ [])) e h = ap parent_of (after_prefix-exact d k (y ∷ []) (sym e)) ∙ parent_of-snoc d y
name_in-parent d k x (Some (y ∷ z ∷ r)) e h = absurd (cc)

-- ---- a row that fits keeps a tree within the limits

-- a directory that is seen stands there
dir_there : (t : Tree) (k : Key) (o : Option Node) → look t k ≡ o → is_dir (tree_shapes t k) ≡ true → look t k ≡ Some Dir
dir_there t k None e h = let none : is_dir (tree_shapes t k) ≡ false = ap (λ o. is_dir (shapes.shape_of t k o)) e in absurd (cc)
dir_there t k (Some Dir) e h = e
dir_there t k (Some (File bytes)) e h = let none : is_dir (tree_shapes t k) ≡ false = ap (λ o. is_dir (shapes.shape_of t k o)) e in absurd (cc)

-- a directory that is not full has room for one more
room_for : (most : ℕ) (t : Tree) (k : Key) → look t k ≡ Some Dir → not (is_full most (tree_shapes t k)) ≡ true → length (names_in t k) + 1 ≤ most
room_for most t k there room =
    let full : not (nat_le most (length (names_in t k))) ≡ true = sym (ap (λ o. not (is_full most (shapes.shape_of t k o))) there) ∙ room in
    grind (arith, nat_tests)

-- the bytes that a file of this row may have
bytes_within : (limits : Limits) (kind : Kind) (bytes : List ℕ) (others : List ℕ) → may_have limits kind bytes ≡ true → node_of_kind kind bytes ≡ File others → length others ≤ file_limit limits
bytes_within limits kinds.Dir bytes others may e = absurd (cc)
bytes_within limits kinds.File bytes others may e =
    let same : bytes ≡ others = cc in
    let may : nat_le (length others) (file_limit limits) ≡ true = ap (λ bs. nat_le (length bs) (file_limit limits)) (sym same) ∙ may in
    grind (arith, nat_tests)

module _ (limits : Limits) (t : Tree) (row : Row) (within : IsWithinLimits limits t) (fit : fits limits t row ≡ true) where
  all : AllBelow t (key_of row)
  all = all_below t (key_of row) (true_T within.tree.sorted) (in_order limits t row fit)

  at_end : inserted t (key_of row) (row_of row).1 ≡ t ++ row_of row ∷ []
  at_end = inserted-last t (key_of row) (row_of row).1 all

  parent_there : look t (parent_of (key_of row)) ≡ Some Dir
  parent_there = dir_there t (parent_of (key_of row)) _ refl (second_holds _ _ (first_holds _ _ (first_holds _ _ fit)))

  parent_room : length (names_in t (parent_of (key_of row))) + 1 ≤ entry_limit limits
  parent_room = room_for (entry_limit limits) t (parent_of (key_of row)) parent_there (second_holds _ _ (first_holds _ _ fit))

  tree_next : IsTree (t ++ row_of row ∷ [])
  tree_next = subst IsTree at_end (tree-inserted t (key_of row) (row_of row).1 within.tree
      (λ e. let none = look-above t (key_of row) all in absurd (cc))
      (λ d x e. ap (look t) (sym (ap parent_of e ∙ parent_of-snoc d x)) ∙ parent_there))

  entries_next : (d : Key) → length (names_in (t ++ row_of row ∷ []) d) ≤ entry_limit limits
  entries_next d = go (name_in d (key_of row)) refl
    where
      count : (o : Option Name) → name_in d (key_of row) ≡ o → length (names_in (t ++ row_of row ∷ []) d) ≡ length (names_in t d) + length (with_name o [])
      count o e = ap length (names_in-append t (row_of row ∷ []) d) ∙ length-append (names_in t d) (names_in (row_of row ∷ []) d) ∙ ap (λ o. length (names_in t d) + length (with_name o [])) e

      go : (o : Option Name) → name_in d (key_of row) ≡ o → length (names_in (t ++ row_of row ∷ []) d) ≤ entry_limit limits
      go None e = let before : length (names_in t d) ≤ entry_limit limits = within.entries d in omega (arith, count None e)
      go (Some x) e =
          let at : parent_of (key_of row) ≡ d = name_in-parent d (key_of row) x _ refl e in
          let room : length (names_in t d) + 1 ≤ entry_limit limits = subst (λ (k : Key). length (names_in t k) + 1 ≤ entry_limit limits) at parent_room in
          omega (arith, count (Some x) e)

  bytes_next : (k : Key) (bytes : List ℕ) → look (t ++ row_of row ∷ []) k ≡ Some (File bytes) → length bytes ≤ file_limit limits
  bytes_next k bytes e = go (same_key k (key_of row)) (sym (look-inserted t (key_of row) (row_of row).1 k) ∙ ap (λ (z : Tree). look z k) at_end ∙ e)
    where
      go : (b : Bool) → cond {A = Option Node} b (Some (row_of row).1) (look t k) ≡ Some (File bytes) → length bytes ≤ file_limit limits
      go true h = bytes_within limits row.kind row.bytes.items bytes (second_holds _ _ fit) (let same : (row_of row).1 ≡ File bytes = cc in same)
      go false h = within.bytes k bytes h

  within_next : IsWithinLimits limits (t ++ row_of row ∷ [])
  within_next = record { tree = tree_next; entries = entries_next; bytes = bytes_next }

-- a row that may have its bytes is plain
plain_by : (limits : Limits) (kind : Kind) (bytes : List ℕ) → may_have limits kind bytes ≡ true → not (is_dirs kind && has_any bytes) ≡ true
plain_by limits kinds.Dir bytes e = e
plain_by limits kinds.File bytes e = refl

-- rows that all fit
all_fit : (limits : Limits) (t : Tree) (place : ℕ) (rows : List Row) → IsWithinLimits limits t → misfit_from limits t place rows ≡ None → IsWithinLimits limits (t ++ map row_of rows) × IsTrue (list_all is_plain rows)
all_fit limits t place [] within e = (subst (IsWithinLimits limits) (sym (append-nil t)) within, refl)
all_fit limits t place (row ∷ rows) within e = go (fits limits t row) refl e (λ next h. all_fit limits (t ++ row_of row ∷ []) (place + 1) rows next h)
  where
    go : (b : Bool) → fits limits t row ≡ b → cond {A = Option ℕ} b (misfit_from limits (t ++ row_of row ∷ []) (place + 1) rows) (Some place) ≡ None
        → (IsWithinLimits limits (t ++ row_of row ∷ []) → misfit_from limits (t ++ row_of row ∷ []) (place + 1) rows ≡ None → IsWithinLimits limits ((t ++ row_of row ∷ []) ++ map row_of rows) × IsTrue (list_all is_plain rows))
        → IsWithinLimits limits (t ++ row_of row ∷ map row_of rows) × IsTrue (is_plain row && list_all is_plain rows)
    go true fit h later =
        let rest = later (within_next limits t row within fit) h in
        (subst (IsWithinLimits limits) (append_assoc t (row_of row ∷ []) (map row_of rows)) rest.0, both_hold _ _ (plain_by limits row.kind row.bytes.items (second_holds _ _ fit)) rest.1)
    go false fit h later = absurd (cc)

-- ---- the rows of a tree within the limits fit

-- two tests at once
both_of : (a b : Bool) → T a → T b → T (a && b)
both_of true b p q = q
both_of false b p q = p

-- one more than some and more
one_more : (n more : ℕ) → n + suc more ≡ n + (1 + more)
one_more n more = omega arith

-- the end of what rises
before_end : (e f : Key × Node) (t u : Tree) → T (is_sorted key_cmp (e ∷ (t ++ f ∷ u))) → key_cmp (last_key (e ∷ t)) f.0 ≡ Less
before_end e f [] u sorted = is_less _ (both_first _ _ (both_first _ _ sorted))
before_end e f (h ∷ t) u sorted = before_end h f t u (both_second _ _ sorted)

-- what is below all that follows
first_below : (k : Key) (t u : Tree) → T (below_all key_cmp k (t ++ u)) → T (below_all key_cmp k t)
first_below k [] u h = tt
first_below k (e ∷ t) u h = both_of _ _ (both_first _ _ h) (first_below k t u (both_second _ _ h))

-- the front of what rises rises
sorted_front : (t u : Tree) → T (is_sorted key_cmp (t ++ u)) → T (is_sorted key_cmp t)
sorted_front [] u h = tt
sorted_front (e ∷ t) u h = both_of _ _ (first_below e.0 t u (both_first _ _ h)) (sorted_front t u (both_second _ _ h))

-- and the end
sorted_end : (t u : Tree) → T (is_sorted key_cmp (t ++ u)) → T (is_sorted key_cmp u)
sorted_end [] u h = h
sorted_end (e ∷ t) u h = sorted_end t u (both_second _ _ h)

-- what is below a key is below all that is above it
below_trans : (a b : Key) (u : Tree) → key_cmp a b ≡ Less → T (below_all key_cmp b u) → T (below_all key_cmp a u)
below_trans a b [] less h = tt
below_trans a b (e ∷ u) less h = both_of _ _ (true_T (ap is_lt (key_total.trans a b e.0 less (is_less _ (both_first _ _ h))))) (below_trans a b u less (both_second _ _ h))

-- nothing is found among keys that are all above
find-under : (k : Key) (u : Tree) → T (below_all key_cmp k u) → find key_cmp k u ≡ None
find-under k [] h = refl
find-under k (e ∷ u) h = ap (λ b. cond {A = Option Node} b (Some e.1) (find key_cmp k u)) (ap is_eq (is_less _ (both_first _ _ h))) ∙ find-under k u (both_second _ _ h)

-- what is not found in the end is found in the front
find-front : (k : Key) (t u : Tree) → find key_cmp k u ≡ None → find key_cmp k (t ++ u) ≡ find key_cmp k t
find-front k [] u none = none
find-front k (e ∷ t) u none = ap (cond {A = Option Node} (same_key k e.0) (Some e.1)) (find-front k t u none)

-- what is above the front is found in the end
find-end : (k : Key) (t u : Tree) → AllBelow t k → find key_cmp k (t ++ u) ≡ find key_cmp k u
find-end k [] u below = refl
find-end k (e ∷ t) u below = ap (λ b. cond {A = Option Node} b (Some e.1) (find key_cmp k (t ++ u))) (ap is_eq (above e.0 k below.0)) ∙ find-end k t u below.1

-- a directory comes before what is in it
dir_before : (d : Key) (x : Name) → key_cmp d (d ++ x ∷ []) ≡ Less
dir_before [] x = refl
dir_before (y ∷ d) x = ap (λ o. ordering_then o (key_cmp d (d ++ x ∷ []))) (tied_itself name_total y) ∙ dir_before d x

-- no room is left
room_left : (most n more : ℕ) → n + (1 + more) ≤ most → not (nat_le most n) ≡ true
room_left most n more h = grind (arith, nat_tests)

-- bytes within the limit
bytes_fit : (limits : Limits) (kind : Kind) (bytes : List ℕ) → not (is_dirs kind && has_any bytes) ≡ true → ((others : List ℕ) → node_of_kind kind bytes ≡ File others → length others ≤ file_limit limits) → may_have limits kind bytes ≡ true
bytes_fit limits kinds.Dir bytes plain within = plain
bytes_fit limits kinds.File bytes plain within = let small : length bytes ≤ file_limit limits = within bytes refl in grind (arith, nat_tests)

module _ (limits : Limits) (e : Key × Node) (t : Tree) (key : Key) (kind : Kind) (bytes : List ℕ) (u : Tree) (within : IsWithinLimits limits (e ∷ (t ++ (key, node_of_kind kind bytes) ∷ u))) (plain : not (is_dirs kind && has_any bytes) ≡ true) where
  whole : Tree
  whole = (e ∷ t) ++ (key, node_of_kind kind bytes) ∷ u

  rises : T (is_sorted key_cmp ((e ∷ t) ++ (key, node_of_kind kind bytes) ∷ u))
  rises = true_T within.tree.sorted

  less : key_cmp (last_key (e ∷ t)) key ≡ Less
  less = before_end e ((key, node_of_kind kind bytes)) t u rises

  not_root : is_root key ≡ false
  not_root = go key refl
    where
      go : (k : Key) → key ≡ k → is_root k ≡ false
      go [] same = let no : is_lt (key_cmp (last_key (e ∷ t)) key) ≡ false = ap (λ k. is_lt (key_cmp (last_key (e ∷ t)) k)) same ∙ not_below_root (last_key (e ∷ t)) [] refl in
          let yes : is_lt (key_cmp (last_key (e ∷ t)) key) ≡ true = ap is_lt less in absurd (cc)
      go (x ∷ k) same = refl

  split : key ≡ parent_of key ++ last_of key ∷ []
  split = parent_and_last key not_root

  -- the row stands in the whole
  there : look ((e ∷ t) ++ (key, node_of_kind kind bytes) ∷ u) key ≡ Some (node_of_kind kind bytes)
  there =
      look-find ((e ∷ t) ++ (key, node_of_kind kind bytes) ∷ u) key
      ∙ find-end key (e ∷ t) ((key, node_of_kind kind bytes) ∷ u) (all_below (e ∷ t) key (sorted_front (e ∷ t) ((key, node_of_kind kind bytes) ∷ u) rises) less)
      ∙ ap (λ b. cond {A = Option Node} b (Some (node_of_kind kind bytes)) (find key_cmp key u)) (same_key_refl key)

  -- and its parent before it
  parent_before : look (e ∷ t) (parent_of key) ≡ Some Dir
  parent_before =
      let d = parent_of key in
      let under : key_cmp d key ≡ Less = ap (key_cmp d) split ∙ dir_before d (last_of key) in
      let ends : T (is_sorted key_cmp ((key, node_of_kind kind bytes) ∷ u)) = sorted_end (e ∷ t) ((key, node_of_kind kind bytes) ∷ u) rises in
      let none : find key_cmp d ((key, node_of_kind kind bytes) ∷ u) ≡ None = find-under d ((key, node_of_kind kind bytes) ∷ u) (both_of _ _ (true_T (ap is_lt under)) (below_trans d key u under (both_first _ _ ends))) in
      look-find (e ∷ t) d ∙ sym (find-front d (e ∷ t) ((key, node_of_kind kind bytes) ∷ u) none) ∙ sym (look-find ((e ∷ t) ++ (key, node_of_kind kind bytes) ∷ u) d)
      ∙ within.tree.inside d (last_of key) (node_of_kind kind bytes) (sym (ap (look ((e ∷ t) ++ (key, node_of_kind kind bytes) ∷ u)) split) ∙ there)

  -- which has room
  has_room : not (nat_le (entry_limit limits) (length (names_in (e ∷ t) (parent_of key)))) ≡ true
  has_room =
      let d = parent_of key in
      let named : name_in d key ≡ Some (last_of key) = ap (name_in d) split ∙ ap only_name (after_prefix-append d (last_of key ∷ [])) in
      let count : length (names_in ((e ∷ t) ++ (key, node_of_kind kind bytes) ∷ u) d) ≡ length (names_in (e ∷ t) d) + (1 + length (names_in u d)) =
      ap length (names_in-append (e ∷ t) ((key, node_of_kind kind bytes) ∷ u) d) ∙ length-append (names_in (e ∷ t) d) (names_in ((key, node_of_kind kind bytes) ∷ u) d)
      ∙ ap (λ o. length (names_in (e ∷ t) d) + length (with_name o (names_in u d))) named ∙ one_more (length (names_in (e ∷ t) d)) (length (names_in u d)) in
      let full = within.entries d in
      room_left (entry_limit limits) (length (names_in (e ∷ t) d)) (length (names_in u d)) (omega (arith, count, full))

  pub node_fits : fits_at limits (e ∷ t) key kind bytes ≡ true
  node_fits =
      let d = parent_of key in
      both_hold _ _
      (both_hold _ _
      (both_hold _ _ (ap is_lt less) (ap (λ o. is_dir (shapes.shape_of (e ∷ t) d o)) parent_before))
      (ap (λ o. not (is_full (entry_limit limits) (shapes.shape_of (e ∷ t) d o))) parent_before ∙ has_room))
      (bytes_fit limits kind bytes plain (λ others is. within.bytes key others (there ∙ ap Some is)))

-- rows that follow others in a tree
fit_all : (limits : Limits) (e : Key × Node) (t : Tree) (place : ℕ) (rows : List Row) → IsWithinLimits limits (e ∷ (t ++ map row_of rows)) → list_all is_plain rows ≡ true → misfit_from limits (e ∷ t) place rows ≡ None
fit_all limits e t place [] within plain = refl
fit_all limits e t place (row ∷ rows) within plain =
    ap (λ b. cond {A = Option ℕ} b (misfit_from limits (e ∷ (t ++ row_of row ∷ [])) (place + 1) rows) (Some place)) (node_fits limits e t (key_of row) row.kind row.bytes.items (map row_of rows) within (first_holds _ _ plain))
    ∙ fit_all limits e (t ++ row_of row ∷ []) (place + 1) rows (subst (λ z. IsWithinLimits limits (e ∷ z)) (sym (append_assoc t (row_of row ∷ []) (map row_of rows))) within) (second_holds _ _ plain)

-- ---- the first row

-- a row that is the first is the root
root_of_first : (kind : Kind) (bytes : List ℕ) (k : Key) → is_root k ≡ true → is_dirs kind ≡ true → ◌≡◌ {A = Tree} root_tree ((k, node_of_kind kind bytes) ∷ [])
root_of_first kinds.Dir bytes [] root dir = refl
root_of_first kinds.Dir bytes (x ∷ k) root dir = absurd (cc)
root_of_first kinds.File bytes k root dir = absurd (cc)

-- the root alone is within the limits
root_within : (limits : Limits) → IsWithinLimits limits root_tree
root_within limits = record {
  tree = played_trees_are_trees.0;
  entries = λ d. few (after_prefix d []) d refl;
  bytes = λ k bytes e. absurd (no_file (same_key k []) bytes (sym (look-find root_tree k) ∙ e));
}
  where
    few : (o : Option Key) (d : Key) → after_prefix d [] ≡ o → length (with_name (only_name (after_prefix d [])) []) ≤ entry_limit limits
    few o [] e = let some = some_entries limits in omega (arith, some)
    few o (x ∷ d) e = let some = some_entries limits in omega (arith, some)

    no_file : (b : Bool) (bytes : List ℕ) → cond {A = Option Node} b (Some Dir) None ≡ Some (File bytes) → ⊥
    no_file true bytes e = cc
    no_file false bytes e = cc

-- a node that is there is one
same_node : (m n : Node) → Some m ≡ Some n → m ≡ n
same_node m n e = cc

-- what is a directory's has its kind
dirs : (kind : Kind) (bytes : List ℕ) → node_of_kind kind bytes ≡ Dir → is_dirs kind ≡ true
dirs kinds.Dir bytes e = refl
dirs kinds.File bytes e = absurd (cc)

-- what is the first of a tree's rows
root_row : (limits : Limits) (row : Row) (u : Tree) → IsWithinLimits limits (row_of row ∷ u) → is_plain row ≡ true → is_first row ≡ true
root_row limits row u within plain = go (key_of row) refl
  where
    found : (k : Key) → key_of row ≡ k → find key_cmp [] ((k, (row_of row).1) ∷ u) ≡ Some Dir
    found k e = ap (λ z. find key_cmp [] ((z, (row_of row).1) ∷ u)) (sym e) ∙ sym (look-find (row_of row ∷ u) []) ∙ within.tree.root

    go : (k : Key) → key_of row ≡ k → is_first row ≡ true
    go [] e =
        let dir : (row_of row).1 ≡ Dir = same_node (row_of row).1 Dir (found [] e) in
        let of_dir : is_dirs row.kind ≡ true = dirs row.kind row.bytes.items dir in
        both_hold _ _ (both_hold _ _ (ap is_root e) of_dir) (ap (λ b. not (b && has_any row.bytes.items)) (sym of_dir) ∙ plain)
    go (x ∷ k) e =
        let below : T (below_all key_cmp (x ∷ k) u) = subst (λ z. T (below_all key_cmp z u)) e (both_first _ _ (true_T within.tree.sorted)) in
        let none : find key_cmp [] u ≡ None = find-under [] u (below_trans [] (x ∷ k) u refl below) in
        let some : find key_cmp [] u ≡ Some Dir = found (x ∷ k) e in
        absurd (cc)

-- the first entry of a tree is its root
pub root_first : (t : Tree) → IsTree t → (u : Tree) × (t ≡ ([], Dir) ∷ u)
root_first [] is = let none : ◌≡◌ {A = Option Node} None (Some Dir) = sym (look-find [] []) ∙ is.root in absurd (cc)
root_first ((k, n) ∷ u) is = go k refl
  where
    found : (j : Key) → k ≡ j → find key_cmp [] ((j, n) ∷ u) ≡ Some Dir
    found j e = ap (λ (z : Key). find key_cmp [] ((z, n) ∷ u)) (sym e) ∙ sym (look-find ((k, n) ∷ u) []) ∙ is.root

    go : (j : Key) → k ≡ j → (v : Tree) × (◌≡◌ {A = Tree} ((k, n) ∷ u) (([], Dir) ∷ v))
    go [] e = (u, ap (λ (z : Key). (z, n) ∷ u) e ∙ ap (λ (z : Node). ([], z) ∷ u) (same_node n Dir (found [] e)))
    go (x ∷ j) e =
        let below : T (below_all key_cmp (x ∷ j) u) = subst (λ (z : Key). T (below_all key_cmp z u)) e (both_first _ _ (true_T is.sorted)) in
        let none : find key_cmp [] u ≡ None = find-under [] u (below_trans [] (x ∷ j) u refl below) in
        let some : find key_cmp [] u ≡ Some Dir = found (x ∷ j) e in
        absurd (cc)

-- ---- the law

pub fitting_rows_are_trees : FittingRowsAreTrees
fitting_rows_are_trees limits rows = (to rows, λ h. from rows h.0 h.1)
  where
    to : (rows : List Row) → misfit limits rows ≡ None → IsWithinLimits limits (map row_of rows) × IsTrue (list_all is_plain rows)
    to [] e = absurd (cc)
    to (row ∷ rows) e = go (is_first row) refl e
      where
        go : (b : Bool) → is_first row ≡ b → cond {A = Option ℕ} b (misfit_from limits (row_of row ∷ []) 2 rows) (Some 1) ≡ None → IsWithinLimits limits (row_of row ∷ map row_of rows) × IsTrue (is_plain row && list_all is_plain rows)
        go true first h =
            let root : ◌≡◌ {A = Tree} root_tree (row_of row ∷ []) = root_of_first row.kind row.bytes.items (key_of row) (first_holds _ _ (first_holds _ _ first)) (second_holds _ _ (first_holds _ _ first)) in
            let rest = all_fit limits (row_of row ∷ []) 2 rows (subst (IsWithinLimits limits) root (root_within limits)) h in
            (rest.0, both_hold _ _ (ap (λ b. not (b && has_any row.bytes.items)) (second_holds _ _ (first_holds _ _ first)) ∙ second_holds _ _ first) rest.1)
        go false first h = absurd (cc)

    from : (rows : List Row) → IsWithinLimits limits (map row_of rows) → IsTrue (list_all is_plain rows) → misfit limits rows ≡ None
    from [] within plain = let none : ◌≡◌ {A = Option Node} None (Some Dir) = sym (look-find [] []) ∙ within.tree.root in absurd (cc)
    from (row ∷ rows) within plain =
        ap (λ b. cond {A = Option ℕ} b (misfit_from limits (row_of row ∷ []) 2 rows) (Some 1)) (root_row limits row (map row_of rows) within (first_holds _ _ plain))
        ∙ fit_all limits (row_of row) [] 2 rows within (second_holds _ _ plain)
