-- A tree stays a tree, and a rename moves what it names.
use Rattle.std.proofs.Common.{◌≡◌, ◌≢◌, ℕ, Bool, true, false, cond, List, [], ◌∷◌, ◌++◌, Some, None, Option, is_some, refl, sym, ap, subst, ◌∙◌, append_assoc, T}
use Rattle.std.proofs.lemmas.Float.{T_from_true}
use Rattle.fs_names.specs.Names.{Name}
use Rattle.fs_names.specs.Keys.{Key, same_key, is_root, after_prefix}
use Rattle.fs_names.proofs.Lemmas.{after_prefix-exact, after_prefix-append}
use Rattle.fs_names.specs.declared.limits.Limits.{Limits}
use Rattle.fs_calls.specs.Tree.{Tree, Node, Dir, File, look, root_tree, inserted, removed, renamed, exchanged, exchanged_key, IsTree}
use Rattle.fs_calls.specs.Sights.{tree_shapes, has_any, bytes_of}
use Rattle.fs_calls.specs.Starts.{Start}
use Rattle.fs_calls.specs.Outcomes.{fault, after, change, if_sound, filled, called, play}
use Rattle.fs_calls.specs.Rows.{written, resized}
use Rattle.fs_calls.specs.Laws.{StaysATree, PlayedTreesAreTrees, SameTrees, IsMoved, RenamesMove, IsExchanged, ExchangesSwap}
use Rattle.fs_calls.specs.declared.call.Call.{Call}
use Rattle.fs_calls.specs.declared.call.Call.TheVariants.{Mkdir, Mknod, Unlink, Rmdir, Rename, Exchange, Stat, Readdir, ListAfter, Read, Write, Truncate}
use Rattle.fs_calls.specs.declared.errno.Errno.{Errno}
use Rattle.fs_calls.proofs.LookLemmas.{same_key_exact, look-inserted, look-removed, sorted-inserted, sorted-removed, same_tree}
use Rattle.fs_calls.specs.Sights.{is_same}
use Rattle.fs_calls.proofs.KeyLemmas.{never_same, only_same, is_same_refl, differ, differ_not, parent_of_child, not_root, after_prefix-front, after_prefix-child, longer_front}
use Rattle.fs_calls.proofs.ListLemmas.{no_snoc}
use Rattle.fs_calls.proofs.RenamedTrees.{after_move, look-renamed, sorted-renamed}
use Rattle.fs_calls.proofs.ExchangedTrees.{exchanged-first, exchanged-second, exchanged-other, look-exchanged, sorted-exchanged}
use Rattle.fs_calls.proofs.ResolutionLemmas.{directories_above}
use Rattle.fs_calls.proofs.FaultLemmas.{Makes, Removes, Writes, Renames, Exchanges, mkdir_makes, mknod_makes, unlink_removes, rmdir_removes, write_writes, truncate_writes, rename_renames, exchange_exchanges}

-- what holds is true
true_from_T : (b : Bool) → T b → b ≡ true
true_from_T true h = refl
true_from_T false h = absurd h

-- trees in which the same stands at each key are one
pub same_trees : SameTrees
same_trees s t one other same = same_tree s t (T_from_true _ one.sorted) (T_from_true _ other.sorted) same

-- ---- one key has a new node

-- what a search finds is the new node where its key is asked for, and else what stood there
either : (b : Bool) (n m : Node) (o : Option Node) (P : Type 0) → cond {A = Option Node} b (Some n) o ≡ Some m → (b ≡ true → P) → (o ≡ Some m → P) → P
either true n m o P h here there = here refl
either false n m o P h here there = there h

-- where no directory is replaced, a node put into a directory keeps the tree a tree
pub tree-inserted : (t : Tree) (p : Key) (n : Node) → IsTree t → look t p ≢ Some Dir → ((d : Key) (x : Name) → p ≡ d ++ x ∷ [] → look t d ≡ Some Dir) → IsTree (inserted t p n)
tree-inserted t p n is no_dir parent = record {
  sorted = true_from_T _ (sorted-inserted t p n (T_from_true _ is.sorted));
  root = kept [] is.root;
  inside = λ d x m h. kept d (either (same_key (d ++ x ∷ []) p) n m (look t (d ++ x ∷ [])) (look t d ≡ Some Dir)
      (sym (look-inserted t p n (d ++ x ∷ [])) ∙ h)
      (λ same. parent d x (sym (same_key_exact (d ++ x ∷ []) p same)))
      (is.inside d x m));
}
  where
    kept : (d : Key) → look t d ≡ Some Dir → look (inserted t p n) d ≡ Some Dir
    kept d e = look-inserted t p n d ∙ ap (λ b. cond {A = Option Node} b (Some n) (look t d)) (differ d p (λ same. no_dir (ap (look t) (sym same) ∙ e))) ∙ e

-- after mkdir and mknod
made : (t : Tree) (p : Key) (n : Node) → IsTree t → Makes t p → IsTree (inserted t p n)
made t p n is new = tree-inserted t p n is (λ same. let none = new.absent in absurd (cc)) (λ d x e. ap (look t) (sym (parent_of_child p d x e)) ∙ new.parent)

-- the node that is there
some_node : (o : Option Node) → is_some o ≡ true → (n : Node) × (o ≡ Some n)
some_node None h = absurd (cc)
some_node (Some n) h = (n, refl)

-- after write and truncate
rewritten : (t : Tree) (p : Key) (n : Node) → IsTree t → Writes t p → IsTree (inserted t p n)
rewritten t p n is file =
    let old = some_node (look t p) file.there in
    tree-inserted t p n is file.no_dir (λ d x e. is.inside d x old.0 (ap (look t) (sym e) ∙ old.1))

-- ---- one key is gone

-- where nothing stands below it, a node that is not the root can go
pub tree-removed : (t : Tree) (p : Key) → IsTree t → is_root p ≡ false → ((x : Name) → look t (p ++ x ∷ []) ≡ None) → IsTree (removed t p)
tree-removed t p is named bare = record {
  sorted = true_from_T _ (sorted-removed t p (T_from_true _ is.sorted));
  root = kept [] Dir (λ e. not_root p named (sym e)) is.root;
  inside = λ d x m h.
      let old = was (d ++ x ∷ []) m h in
      kept d Dir (λ e. let none = bare x in let some : look t (p ++ x ∷ []) ≡ Some m = ap (λ k. look t (k ++ x ∷ [])) (sym e) ∙ old in absurd (cc)) (is.inside d x m old);
}
  where
    kept : (d : Key) (n : Node) → d ≢ p → look t d ≡ Some n → look (removed t p) d ≡ Some n
    kept d n other e = look-removed t p d ∙ ap (λ b. cond {A = Option Node} b None (look t d)) (differ d p other) ∙ e

    still : (b : Bool) (o : Option Node) (m : Node) → cond {A = Option Node} b None o ≡ Some m → o ≡ Some m
    still true o m h = absurd (cc)
    still false o m h = h

    was : (k : Key) (m : Node) → look (removed t p) k ≡ Some m → look t k ≡ Some m
    was k m h = still (same_key k p) (look t k) m (sym (look-removed t p k) ∙ h)

-- after unlink and rmdir
gone : (t : Tree) (p : Key) → IsTree t → Removes t p → IsTree (removed t p)
gone t p is old = tree-removed t p is old.named (λ x. old.bare x [])

-- ---- a rename

-- no key below p is one below q, since nothing stands below q
never_both : (t : Tree) (p q rest : Key) → Renames t p q → after_prefix q (p ++ rest) ≡ None
never_both t p q rest may = by_case (after_prefix q (p ++ rest)) refl
  where
    by_case : (a : Option Key) → after_prefix q (p ++ rest) ≡ a → a ≡ None
    by_case None e = refl
    by_case (Some s) e =
        let above = longer_front p q rest s (after_prefix-exact q (p ++ rest) s e) may.beside in
        let none : look t p ≡ None = ap (look t) above.2 ∙ may.bare above.0 above.1 in
        let not_there : is_some (look t p) ≡ false = ap is_some none in
        let there = may.there in
        absurd (cc)

-- a rename moves what it names
is_moved : (t : Tree) (p q : Key) → Renames t p q → IsMoved t (renamed t p q) p q
is_moved t p q may = record {
  arrived = λ rest. look-renamed t p q (q ++ rest) may.beside may.bare ∙ ap (λ a. after_move t p (q ++ rest) a (after_prefix p (q ++ rest))) (after_prefix-append q rest);
  gone = λ rest. look-renamed t p q (p ++ rest) may.beside may.bare ∙ (λ i. after_move t p (p ++ rest) (never_both t p q rest may i) (after_prefix-append p rest i));
  others = λ k not_p not_q. look-renamed t p q k may.beside may.bare ∙ (λ i. after_move t p k (not_q i) (not_p i));
}

-- a key with a name is no prefix of the root
root_no_prefix : (p : Key) → is_root p ≡ false → after_prefix p [] ≡ None
root_no_prefix [] h = absurd (cc)
root_no_prefix (x ∷ p) h = refl

-- a rename keeps the tree a tree
tree-renamed : (t : Tree) (p q : Key) → IsTree t → Renames t p q → IsTree (renamed t p q)
tree-renamed t p q is may = record {
  sorted = true_from_T _ (sorted-renamed t p q);
  root = look-renamed t p q [] may.beside may.bare ∙ (λ i. after_move t p [] (root_no_prefix q may.new_named i) (root_no_prefix p may.named i)) ∙ is.root;
  inside = λ d x n h. by_case d x n (after_prefix q d) refl h;
}
  where
    moves : IsMoved t (renamed t p q) p q
    moves = is_moved t p q may

    -- what stands beside both paths stands in a directory, which stands beside both
    beside : (d : Key) (x : Name) (n : Node) (a : Option Key) → after_prefix p (d ++ x ∷ []) ≡ a → after_prefix q d ≡ None → q ≢ d ++ x ∷ [] → look (renamed t p q) (d ++ x ∷ []) ≡ Some n → look (renamed t p q) d ≡ Some Dir
    beside d x n (Some r) e not_q other h =
        let none : look (renamed t p q) (d ++ x ∷ []) ≡ None = ap (look (renamed t p q)) (after_prefix-exact p (d ++ x ∷ []) r e) ∙ moves.gone r in
        absurd (cc)
    beside d x n None e not_q other h =
        moves.others d (after_prefix-front p d x e) not_q
        ∙ is.inside d x n (sym (moves.others (d ++ x ∷ []) e (after_prefix-child q d x other not_q)) ∙ h)

    -- the new place stands in a directory, which the rename leaves
    new_parent : (d : Key) (x : Name) → q ≡ d ++ x ∷ [] → after_prefix q d ≡ None → look (renamed t p q) d ≡ Some Dir
    new_parent d x at not_q =
        moves.others d (after_prefix-front p d x (ap (after_prefix p) (sym at) ∙ may.beside)) not_q
        ∙ ap (look t) (sym (parent_of_child q d x at)) ∙ may.new_parent

    by_test : (d : Key) (x : Name) (n : Node) (b : Bool) → same_key q (d ++ x ∷ []) ≡ b → after_prefix q d ≡ None → look (renamed t p q) (d ++ x ∷ []) ≡ Some n → look (renamed t p q) d ≡ Some Dir
    by_test d x n true e not_q h = new_parent d x (same_key_exact q (d ++ x ∷ []) e) not_q
    by_test d x n false e not_q h = beside d x n (after_prefix p (d ++ x ∷ [])) refl not_q (differ_not q (d ++ x ∷ []) e) h

    by_case : (d : Key) (x : Name) (n : Node) (a : Option Key) → after_prefix q d ≡ a → look (renamed t p q) (d ++ x ∷ []) ≡ Some n → look (renamed t p q) d ≡ Some Dir
    by_case d x n None e h = by_test d x n (same_key q (d ++ x ∷ [])) refl e h
    by_case d x n (Some r) e h =
        let at : d ≡ q ++ r = after_prefix-exact q d r e in
        let below : (d ++ x ∷ []) ≡ q ++ (r ++ x ∷ []) = ap (λ k. k ++ x ∷ []) at ∙ append_assoc q r (x ∷ []) in
        let old : look t ((p ++ r) ++ x ∷ []) ≡ Some n = ap (look t) (append_assoc p r (x ∷ [])) ∙ sym (moves.arrived (r ++ x ∷ [])) ∙ ap (look (renamed t p q)) (sym below) ∙ h in
        ap (look (renamed t p q)) at ∙ moves.arrived r ∙ is.inside (p ++ r) x n old

-- ---- an exchange

-- an exchange keeps the tree a tree
tree-exchanged : (t : Tree) (p q : Key) → IsTree t → Exchanges t p q → IsTree (exchanged t p q)
tree-exchanged t p q is may = record {
  sorted = true_from_T _ (sorted-exchanged t p q);
  root = at [] [] (exchanged-other p q [] (root_no_prefix p may.named) (root_no_prefix q may.other_named)) ∙ is.root;
  inside = λ d x n h. by_case d x n (after_prefix p d) (after_prefix q d) refl refl h;
}
  where
    -- what stands at a key, by where it stood
    at : (k old : Key) → exchanged_key p q k ≡ old → look (exchanged t p q) k ≡ look t old
    at k old e = look-exchanged t p q k may.beside ∙ ap (look t) e

    -- below a path stands what stood below the other one
    below : (d here there : Key) (x : Name) (n : Node) (r : Key) → ((s : Key) → exchanged_key p q (here ++ s) ≡ there ++ s) → d ≡ here ++ r → look (exchanged t p q) (d ++ x ∷ []) ≡ Some n → look (exchanged t p q) d ≡ Some Dir
    below d here there x n r to place h =
        let longer : (d ++ x ∷ []) ≡ here ++ (r ++ x ∷ []) = ap (λ k. k ++ x ∷ []) place ∙ append_assoc here r (x ∷ []) in
        let old : look t ((there ++ r) ++ x ∷ []) ≡ Some n = ap (look t) (append_assoc there r (x ∷ [])) ∙ sym (at (d ++ x ∷ []) (there ++ (r ++ x ∷ [])) (ap (exchanged_key p q) longer ∙ to (r ++ x ∷ []))) ∙ h in
        at d (there ++ r) (ap (exchanged_key p q) place ∙ to r) ∙ is.inside (there ++ r) x n old

    -- beside both paths stands what stood there, and what has one of the paths in it stays
    beside : (d : Key) (x : Name) (n : Node) (a b : Bool) → same_key p (d ++ x ∷ []) ≡ a → same_key q (d ++ x ∷ []) ≡ b → after_prefix p d ≡ None → after_prefix q d ≡ None → look (exchanged t p q) (d ++ x ∷ []) ≡ Some n → look t d ≡ Some Dir
    beside d x n true b e f not_p not_q h = ap (look t) (sym (parent_of_child p d x (same_key_exact p (d ++ x ∷ []) e))) ∙ may.parent
    beside d x n false true e f not_p not_q h = ap (look t) (sym (parent_of_child q d x (same_key_exact q (d ++ x ∷ []) f))) ∙ may.other_parent
    beside d x n false false e f not_p not_q h =
        is.inside d x n (sym (at (d ++ x ∷ []) (d ++ x ∷ []) (exchanged-other p q (d ++ x ∷ [])
        (after_prefix-child p d x (differ_not p (d ++ x ∷ []) e) not_p)
        (after_prefix-child q d x (differ_not q (d ++ x ∷ []) f) not_q))) ∙ h)

    by_case : (d : Key) (x : Name) (n : Node) (a b : Option Key) → after_prefix p d ≡ a → after_prefix q d ≡ b → look (exchanged t p q) (d ++ x ∷ []) ≡ Some n → look (exchanged t p q) d ≡ Some Dir
    by_case d x n (Some r) b e f h = below d p q x n r (exchanged-first p q) (after_prefix-exact p d r e) h
    by_case d x n None (Some r) e f h = below d q p x n r (λ s. exchanged-second p q s may.beside) (after_prefix-exact q d r f) h
    by_case d x n None None e f h = at d d (exchanged-other p q d e f) ∙ beside d x n (same_key p (d ++ x ∷ [])) (same_key q (d ++ x ∷ [])) refl refl e f h

-- ---- all calls

-- a tree or a new tree, by a test
keep : (b : Bool) (t new : Tree) → IsTree t → (b ≡ false → IsTree new) → IsTree (cond {A = Tree} b t new)
keep true t new is may = is
keep false t new is may = may refl

-- the change of a call without an error
tree-change : (limits : Limits) (t : Tree) (call : Call) → IsTree t → fault limits t call ≡ None → IsTree (change limits t call)
tree-change limits t (Mkdir p) is h = made t p Dir is (mkdir_makes limits t p is h)
tree-change limits t (Mknod p) is h = made t p (File []) is (mknod_makes limits t p is h)
tree-change limits t (Unlink p) is h = gone t p is (unlink_removes limits t p is h)
tree-change limits t (Rmdir p) is h = gone t p is (rmdir_removes limits t p is h)
tree-change limits t (Rename p q) is h = keep (is_same p q) t (renamed t p q) is (λ other. tree-renamed t p q is (rename_renames limits t p q is h (only_same p q other)))
tree-change limits t (Exchange p q) is h = keep (is_same p q) t (exchanged t p q) is (λ other. tree-exchanged t p q is (exchange_exchanges limits t p q is h (only_same p q other)))
tree-change limits t (Stat p) is h = is
tree-change limits t (Readdir p) is h = is
tree-change limits t (ListAfter count p after) is h = is
tree-change limits t (Read p off count) is h = is
tree-change limits t (Write p off bytes) is h =
    let new : IsTree (inserted t p (File (written (bytes_of (tree_shapes t p)) off bytes))) = rewritten t p (File (written (bytes_of (tree_shapes t p)) off bytes)) is (write_writes limits t p off bytes is h) in
    elim (has_any bytes) as (λ b. IsTree (filled t p (cond {A = Option (List ℕ)} b (Some (written (bytes_of (tree_shapes t p)) off bytes)) None))) [ true ↦ new | false ↦ is ]
tree-change limits t (Truncate p size) is h = rewritten t p (File (resized (bytes_of (tree_shapes t p)) size)) is (truncate_writes limits t p size is h)

-- the tree after a call, by its first error
by_fault : (limits : Limits) (t : Tree) (call : Call) (found : Option Errno) → IsTree t → fault limits t call ≡ found → IsTree (if_sound found t (change limits t call))
by_fault limits t call None is h = tree-change limits t call is h
by_fault limits t call (Some e) is h = is

-- after a call, a tree is a tree
pub stays_a_tree : StaysATree
unfolding after
stays_a_tree limits t call is = by_fault limits t call (fault limits t call) is refl

-- ---- trees that were played

-- the root alone is a tree
tree_root : IsTree root_tree
unfolding look
tree_root = record {
  sorted = refl;
  root = refl;
  inside = λ d x n h. absurd (let none : look root_tree (d ++ x ∷ []) ≡ None = only_root (d ++ x ∷ []) (no_snoc d x) in cc);
}
  where
    only_root : (k : Key) → k ≢ [] → look root_tree k ≡ None
    only_root [] h = absurd (h refl)
    only_root (x ∷ k) h = refl

-- after several calls, a tree is a tree
played_from : (start : Start) (calls : List Call) → IsTree start.tree → IsTree (play start calls)
played_from start [] is = is
played_from start (call ∷ calls) is = played_from (called start call) calls (stays_a_tree start.limits start.tree call is)

-- what was played is a tree, with directories above all that stands in it
pub played_trees_are_trees : PlayedTreesAreTrees
played_trees_are_trees = (tree_root, λ start calls tree. let is = played_from start calls tree in (is, directories_above (play start calls) is))

-- ---- renames

-- what a rename without an error leaves
after_done : (limits : Limits) (t : Tree) (p q : Key) → fault limits t (Rename p q) ≡ None → p ≢ q → after limits t (Rename p q) ≡ renamed t p q
unfolding after
after_done limits t p q h other = ap (λ found. if_sound found t (change limits t (Rename p q))) h ∙ ap (λ b. cond {A = Tree} b t (renamed t p q)) (never_same p q other)

-- a call on a path and itself leaves the tree, with an error or without
onto_itself : (t new : Tree) (p : Key) (found : Option Errno) → if_sound found t (cond {A = Tree} (is_same p p) t new) ≡ t
onto_itself t new p None = ap (λ b. cond {A = Tree} b t new) (is_same_refl p)
onto_itself t new p (Some e) = refl

-- a rename moves what it names
pub renames_move : RenamesMove
unfolding after
renames_move = record {
  moved = λ limits t p q is h other.
      let new = after_done limits t p q h other in
      subst (λ s. IsMoved t s p q) (sym new) (is_moved t p q (rename_renames limits t p q is h other));
  onto_itself = λ limits t p. onto_itself t (renamed t p p) p (fault limits t (Rename p p));
}

-- ---- exchanges

-- an exchange lets two nodes change places
is_exchanged : (t : Tree) (p q : Key) → Exchanges t p q → IsExchanged t (exchanged t p q) p q
is_exchanged t p q may = record {
  one = λ rest. look-exchanged t p q (q ++ rest) may.beside ∙ ap (look t) (exchanged-second p q rest may.beside);
  other = λ rest. look-exchanged t p q (p ++ rest) may.beside ∙ ap (look t) (exchanged-first p q rest);
  others = λ k not_p not_q. look-exchanged t p q k may.beside ∙ ap (look t) (exchanged-other p q k not_p not_q);
}

-- what an exchange without an error leaves
after_exchange : (limits : Limits) (t : Tree) (p q : Key) → fault limits t (Exchange p q) ≡ None → p ≢ q → after limits t (Exchange p q) ≡ exchanged t p q
unfolding after
after_exchange limits t p q h other = ap (λ found. if_sound found t (change limits t (Exchange p q))) h ∙ ap (λ b. cond {A = Tree} b t (exchanged t p q)) (never_same p q other)

-- two nodes change places
pub exchanges_swap : ExchangesSwap
unfolding after
exchanges_swap = record {
  swapped = λ limits t p q is h other.
      let new = after_exchange limits t p q h other in
      subst (λ s. IsExchanged t s p q) (sym new) (is_exchanged t p q (exchange_exchanges limits t p q is h other));
  with_itself = λ limits t p. onto_itself t (exchanged t p p) p (fault limits t (Exchange p p));
}
