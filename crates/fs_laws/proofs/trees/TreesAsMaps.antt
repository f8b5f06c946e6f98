-- A tree as a sorted list answers each call as the map that is seen of it, and leaves what the map leaves.
use Rattle.std.proofs.Common.{◌≡◌, ℕ, Bool, true, false, not, List, [], ◌∷◌, ◌++◌, Option, Some, None, is_some, refl, sym, ap, ap₂, ◌∙◌, append-nil, subst}
use mathlib.Core.Path.{fun_ext}
use Rattle.fs_names.specs.Failures.{or_else}
use Rattle.fs_names.specs.Keys.{Key, after_prefix, parent_of, last_of, is_end}
use Rattle.fs_names.specs.Names.{inserted_name, removed_name}
use Rattle.fs_names.specs.Parts.{HasNames}
use Rattle.fs_names.specs.Shapes.{Shape, Dir, File, is_missing, names_of, bytes_of}
use Rattle.fs_names.specs.declared.limits.Limits.{Limits}
use Rattle.fs_names.specs.Limits.{entry_limit, file_limit}
use Rattle.fs_calls.specs.Tree as trees
use Rattle.fs_calls.specs.Tree.{Tree, Node, look, inserted, removed, IsTree}
use Rattle.fs_calls.specs.Sights.{tree_shapes, shape_of}
use Rattle.fs_calls.specs.Outcomes as list
use Rattle.fs_calls.specs.Outcomes.{parents_resolution, reply_of, row, fault, success, change, replied}
use Rattle.fs_calls.specs.Sights.{is_same, row_in}
use Rattle.fs_calls.specs.Laws.{IsMoved}
use Rattle.fs_laws.specs.Changes.{Change, changed, no_change, only, content_change, edit_change, rename_writes, move_change, swap_change, looked, if_sound, reply}
use Rattle.fs_calls.specs.Forms.{form, by_text, new_shape, Form, AtNode, AtEntry, AtPair, Write, EntryCall, Mkdir, Mknod, Unlink, Rmdir}
use Rattle.fs_calls.specs.Forms as pairs
use Rattle.fs_laws.specs.Maps.{Map, put, move, write_all}
use Rattle.fs_calls.specs.Rows.{Keep, Add, Remove, answered, edit_of, exchange_fault, new_bytes, node_reply, resized, written}
use Rattle.fs_calls.specs.declared.call.Call.{Call}
use Rattle.fs_calls.specs.declared.call.Call.TheVariants as calls
use Rattle.fs_calls.specs.declared.errno.Errno.{Errno}
use Rattle.fs_calls.specs.declared.reply.Reply.{Reply}
use Rattle.fs_calls.specs.declared.reply.Reply.TheVariants.{Done, Failed}
use Rattle.fs_names.proofs.FailureLemmas.{or_else-none}
use Rattle.fs_calls.proofs.KeyLemmas.{is_same_refl, never_same}
use Rattle.fs_calls.proofs.FaultLemmas.{Makes, mkdir_makes, mknod_makes, Writes, write_writes, truncate_writes, Renames, rename_renames, Exchanges, exchange_exchanges}
use Rattle.fs_calls.proofs.ResolutionLemmas.{parents_resolution-none}
use Rattle.fs_calls.proofs.TreeLaws.{stays_a_tree, renames_move, exchanges_swap}
use Rattle.fs_laws.specs.Laws.{TreesAsMaps}
use Rattle.fs_laws.proofs.calls.Located.{key_is, in_more, from_more, to_more}
use Rattle.fs_laws.proofs.trees.Prefixes.{prefix_some}
use Rattle.fs_laws.proofs.trees.ChangesAsMaps.{SameKey, Same, Other, same_or, Bare, A_dir, A_file, seen_made, seen_written, seen_removed}
use Rattle.fs_laws.proofs.trees.RenamesAsMaps.{Moved, seen_moved}
use Rattle.fs_laws.proofs.trees.ExchangesAsMaps.{Exchanged, seen_exchanged}
use Rattle.fs_calls.proofs.ListLemmas.{true_T}

-- ---- rows and changes, read in the map

abbrev change_in : Map Shape → Form → Change
change_in m (AtNode c p) = content_change p (new_bytes c (m p))
change_in m (AtEntry c p) = edit_change (parent_of p) (names_of (m (parent_of p))) (last_of p) p (edit_of (new_shape c))
change_in m (AtPair (pairs.Rename most) p q) = move_change (not (is_end (after_prefix p q))) (rename_writes (is_end (after_prefix (parent_of p) (parent_of q))) (parent_of p) (names_of (m (parent_of p))) (last_of p) (parent_of q) (names_of (m (parent_of q))) (last_of q)) p q
change_in m (AtPair pairs.Exchange p q) = swap_change (not (is_end (after_prefix p q))) p q

-- a row with an error changes nothing, and one without has the reply and the change
looked_fails : (m : Map Shape) (f : Form) (e : Errno) → row_in m f ≡ Some e → looked m f ≡ (Failed e, no_change)
looked_fails m (AtNode c p) e h = ap (λ (o : Option Errno). let r = answered o None (node_reply c (m p)) (new_bytes c (m p)) in (r.0, content_change p r.1)) h
looked_fails m (AtEntry c p) e h = ap (λ (o : Option Errno). let r = answered o Keep Done (edit_of (new_shape c)) in (r.0, edit_change (parent_of p) (names_of (m (parent_of p))) (last_of p) p r.1)) h
looked_fails m (AtPair (pairs.Rename most) p q) e h =
    ap (λ (o : Option Errno). let r = answered o false Done (not (is_end (after_prefix p q))) in (r.0, move_change r.1 (rename_writes (is_end (after_prefix (parent_of p) (parent_of q))) (parent_of p) (names_of (m (parent_of p))) (last_of p) (parent_of q) (names_of (m (parent_of q))) (last_of q)) p q)) h
looked_fails m (AtPair pairs.Exchange p q) e h = ap (λ (o : Option Errno). let r = answered o false Done (not (is_end (after_prefix p q))) in (r.0, swap_change r.1 p q)) h

looked_done : (t : Tree) (f : Form) → row_in (tree_shapes t) f ≡ None → looked (tree_shapes t) f ≡ (reply_of t f, change_in (tree_shapes t) f)
looked_done t (AtNode c p) h = ap (λ (o : Option Errno). let r = answered o None (node_reply c (tree_shapes t p)) (new_bytes c (tree_shapes t p)) in (r.0, content_change p r.1)) h
looked_done t (AtEntry c p) h = ap (λ (o : Option Errno). let r = answered o Keep Done (edit_of (new_shape c)) in (r.0, edit_change (parent_of p) (names_of (tree_shapes t (parent_of p))) (last_of p) p r.1)) h
looked_done t (AtPair (pairs.Rename most) p q) h =
    ap (λ (o : Option Errno). let r = answered o false Done (not (is_end (after_prefix p q))) in (r.0, move_change r.1 (rename_writes (is_end (after_prefix (parent_of p) (parent_of q))) (parent_of p) (names_of (tree_shapes t (parent_of p))) (last_of p) (parent_of q) (names_of (tree_shapes t (parent_of q))) (last_of q)) p q)) h
looked_done t (AtPair pairs.Exchange p q) h = ap (λ (o : Option Errno). let r = answered o false Done (not (is_end (after_prefix p q))) in (r.0, swap_change r.1 p q)) h

pub reply_is : (limits : Limits) (t : Tree) → IsTree t → (call : Call) → list.reply limits t call ≡ reply (tree_shapes t) (form limits call)
unfolding list.reply fault
reply_is limits t is call = go (by_text (form limits call)) (row limits t call) refl
  where
    go : (x y : Option Errno) → row limits t call ≡ y → replied (or_else x y) (success limits t call) ≡ (if_sound x (looked (tree_shapes t) (form limits call))).0
    go (Some e) y h = refl
    go None (Some e) h = sym (ap (λ (r : Reply × Change). r.0) (looked_fails (tree_shapes t) (form limits call) e h))
    go None None h = sym (ap (λ (r : Reply × Change). r.0) (looked_done t (form limits call) h))

-- ---- what is left, without an error

row_none : (limits : Limits) (t : Tree) (call : Call) → fault limits t call ≡ None → (by_text (form limits call) ≡ None) × (row limits t call ≡ None)
unfolding fault
row_none limits t call h = or_else-none (by_text (form limits call)) (row limits t call) h

make_tree : (t : Tree) → IsTree t → (p : Key) (node : Node) (s : Shape) → Bare node s → HasNames p → Makes t p → (k : Key) → tree_shapes (inserted t p node) k ≡ changed (edit_change (parent_of p) (names_of (tree_shapes t (parent_of p))) (last_of p) p (Add s)) (tree_shapes t) k
make_tree t is p node s bare more makes k =
    subst (λ (y : Key). tree_shapes (inserted t y node) k ≡ put y (Some s) (put (parent_of p) (Some (Dir (inserted_name (last_of p) (names_of (tree_shapes t (parent_of p)))))) (tree_shapes t)) k) (sym (key_is p more))
    (seen_made t (parent_of p) (last_of p) node s is bare makes.parent (ap (look t) (sym (key_is p more)) ∙ makes.absent) k)

remove_tree : (t : Tree) → IsTree t → (p : Key) → HasNames p → look t (parent_of p) ≡ Some trees.Dir → (k : Key) → tree_shapes (removed t p) k ≡ changed (edit_change (parent_of p) (names_of (tree_shapes t (parent_of p))) (last_of p) p Remove) (tree_shapes t) k
remove_tree t is p more dir k =
    subst (λ (y : Key). tree_shapes (removed t y) k ≡ put y None (put (parent_of p) (Some (Dir (removed_name (last_of p) (names_of (tree_shapes t (parent_of p)))))) (tree_shapes t)) k) (sym (key_is p more))
    (seen_removed t (parent_of p) (last_of p) is dir k)

-- where an entry goes, its parent is a directory
entry_parent : (t : Tree) → IsTree t → (c : EntryCall) (p : Key) → row_in (tree_shapes t) (AtEntry c p) ≡ None → look t (parent_of p) ≡ Some trees.Dir
entry_parent t is c p h = parents_resolution-none t p is (or_else-none (parents_resolution t p) _ h).0

-- what a call on a file writes
fill_tree : (t : Tree) → IsTree t → (p : Key) (bytes : List ℕ) → Writes t p → (k : Key) → tree_shapes (inserted t p (trees.File bytes)) k ≡ changed (only ((p, Some (File bytes)) ∷ [])) (tree_shapes t) k
fill_tree t is p bytes file k = go (look t p) refl
  where
    go : (o : Option Node) → look t p ≡ o → tree_shapes (inserted t p (trees.File bytes)) k ≡ changed (only ((p, Some (File bytes)) ∷ [])) (tree_shapes t) k
    go None i = let z : false ≡ true = ap is_some (sym i) ∙ file.there in cc
    go (Some trees.Dir) i = absurd (file.no_dir i)
    go (Some (trees.File old)) i = seen_written t p old bytes is i k

write_tree : (limits : Limits) (t : Tree) → IsTree t → (p : Key) (off : ℕ) (bytes : List ℕ) → Writes t p → (k : Key) → tree_shapes (change limits t (calls.Write p off bytes)) k ≡ changed (change_in (tree_shapes t) (AtNode (Write (file_limit limits) off bytes) p)) (tree_shapes t) k
write_tree limits t is p off [] file k = refl
write_tree limits t is p off (b ∷ new) file k = fill_tree t is p (written (bytes_of (tree_shapes t p)) off (b ∷ new)) file k

-- a rename
rename_tree : (limits : Limits) (t : Tree) → IsTree t → (p q : Key) → fault limits t (calls.Rename p q) ≡ None → HasNames p → HasNames q → (k : Key) → tree_shapes (list.after limits t (calls.Rename p q)) k ≡ changed (change_in (tree_shapes t) (AtPair (pairs.Rename (entry_limit limits)) p q)) (tree_shapes t) k
rename_tree limits t is p q none mp mq k = by (same_or p q)
  where
    d : Key
    d = parent_of p

    e : Key
    e = parent_of q

    ws : List (Key × Option Shape)
    ws = rename_writes (is_end (after_prefix (parent_of p) (parent_of q))) (parent_of p) (names_of (tree_shapes t (parent_of p))) (last_of p) (parent_of q) (names_of (tree_shapes t (parent_of q))) (last_of q)

    by : SameKey p q → tree_shapes (list.after limits t (calls.Rename p q)) k ≡ changed (move_change (not (is_end (after_prefix p q))) ws p q) (tree_shapes t) k
    by (Same i j) =
        ap (λ (s : Tree). tree_shapes s k) (ap (λ (y : Key). list.after limits t (calls.Rename p y)) (sym i) ∙ renames_move.onto_itself limits t p)
        ∙ sym (ap (λ (b : Bool). changed (move_change (not b) ws p q) (tree_shapes t) k) (ap (is_same p) (sym i) ∙ is_same_refl p))
    by (Other n j) = moved_seen ∙ sym (ap (λ (b : Bool). changed (move_change (not b) ws p q) (tree_shapes t) k) apart)
      where
        apart : is_end (after_prefix p q) ≡ false
        apart = never_same p q n

        r : Renames t p q
        r = rename_renames limits t p q is none n

        back : (o : Option Key) → after_prefix q p ≡ o → o ≡ None
        back None f = refl
        back (Some []) f = absurd (n (prefix_some q p [] f ∙ append-nil q))
        back (Some (x ∷ rest)) f = let z : true ≡ false = sym r.there ∙ ap (λ (y : Key). is_some (look t y)) (prefix_some q p (x ∷ rest) f) ∙ ap is_some (r.bare x rest) in cc

        p_is : p ≡ parent_of p ++ last_of p ∷ []
        p_is = key_is p mp

        q_is : q ≡ parent_of q ++ last_of q ∷ []
        q_is = key_is q mq

        f : Moved t (list.after limits t (calls.Rename p q)) (parent_of p) (last_of p) (parent_of q) (last_of q)
        f = record {
          is = is;
          is_new = stays_a_tree limits t (calls.Rename p q) is;
          moved = subst (λ (y : Key). IsMoved t (list.after limits t (calls.Rename p q)) (parent_of p ++ last_of p ∷ []) y) q_is (subst (λ (y : Key). IsMoved t (list.after limits t (calls.Rename p q)) y q) p_is (renames_move.moved limits t p q is none n));
          aside = (ap₂ after_prefix (sym p_is) (sym q_is) ∙ r.beside, ap₂ after_prefix (sym q_is) (sym p_is) ∙ back (after_prefix q p) refl);
          from_dir = parents_resolution-none t p is (or_else-none (parents_resolution t p) _ (row_none limits t (calls.Rename p q) none).1).0;
          to_dir = r.new_parent;
          there = ap (λ (y : Key). is_some (look t y)) (sym p_is) ∙ r.there;
        }

        moved_seen : tree_shapes (list.after limits t (calls.Rename p q)) k ≡ changed (move_change true ws p q) (tree_shapes t) k
        moved_seen = seen_moved t (list.after limits t (calls.Rename p q)) (parent_of p) (last_of p) (parent_of q) (last_of q) f k ∙ ap₂ (λ (a b : Key). move a b (write_all ws (tree_shapes t)) k) (sym p_is) (sym q_is)

-- an exchange
exchange_tree : (limits : Limits) (t : Tree) → IsTree t → (p q : Key) → fault limits t (calls.Exchange p q) ≡ None → (k : Key) → tree_shapes (list.after limits t (calls.Exchange p q)) k ≡ changed (change_in (tree_shapes t) (AtPair pairs.Exchange p q)) (tree_shapes t) k
exchange_tree limits t is p q none k = by (same_or p q)
  where
    by : SameKey p q → tree_shapes (list.after limits t (calls.Exchange p q)) k ≡ changed (swap_change (not (is_end (after_prefix p q))) p q) (tree_shapes t) k
    by (Same i j) =
        ap (λ (s : Tree). tree_shapes s k) (ap (λ (y : Key). list.after limits t (calls.Exchange p y)) (sym i) ∙ exchanges_swap.with_itself limits t p)
        ∙ sym (ap (λ (b : Bool). changed (swap_change (not b) p q) (tree_shapes t) k) (ap (is_same p) (sym i) ∙ is_same_refl p))
    by (Other n j) = seen_exchanged t (list.after limits t (calls.Exchange p q)) p q f k ∙ sym (ap (λ (b : Bool). changed (swap_change (not b) p q) (tree_shapes t) k) (never_same p q n))
      where
        r : Exchanges t p q
        r = exchange_exchanges limits t p q is none n

        there : (l : Key) (o : Option Node) → is_missing (shape_of t l o) ≡ false → is_some o ≡ true
        there l None e = cc
        there l (Some node) e = refl

        both : (a b : Option Errno) (s u : Option Shape) → exchange_fault a b s u ≡ None → (is_missing s ≡ false) × (is_missing u ≡ false)
        both (Some e) b s u h = cc
        both None (Some e) s u h = cc
        both None None None u h = cc
        both None None (Some s) None h = cc
        both None None (Some s) (Some u) h = (refl, refl)

        found : (is_missing (tree_shapes t p) ≡ false) × (is_missing (tree_shapes t q) ≡ false)
        found = both (parents_resolution t p) (parents_resolution t q) (tree_shapes t p) (tree_shapes t q) (row_none limits t (calls.Exchange p q) none).1

        f : Exchanged t (list.after limits t (calls.Exchange p q)) p q
        f = record {
          sorted = true_T is.sorted;
          new_sorted = true_T (stays_a_tree limits t (calls.Exchange p q) is).sorted;
          moved = exchanges_swap.swapped limits t p q is none n;
          aside = (r.beside.there, r.beside.back);
          one = there p (look t p) found.0;
          other = there q (look t q) found.1;
        }

after_none : (limits : Limits) (t : Tree) (call : Call) → fault limits t call ≡ None → list.after limits t call ≡ change limits t call
unfolding list.after
after_none limits t call h = ap (λ (e : Option Errno). list.if_sound e t (change limits t call)) h

-- each call without an error
changes_same : (limits : Limits) (t : Tree) → IsTree t → (call : Call) → fault limits t call ≡ None → (k : Key) → tree_shapes (change limits t call) k ≡ changed (change_in (tree_shapes t) (form limits call)) (tree_shapes t) k
changes_same limits t is (calls.Mkdir p) none k = make_tree t is p trees.Dir (Dir []) (A_dir refl refl) (in_more (Mkdir (entry_limit limits)) p (row_none limits t (calls.Mkdir p) none).0) (mkdir_makes limits t p is none) k
changes_same limits t is (calls.Mknod p) none k = make_tree t is p (trees.File []) (File []) (A_file [] refl refl) (in_more (Mknod (entry_limit limits)) p (row_none limits t (calls.Mknod p) none).0) (mknod_makes limits t p is none) k
changes_same limits t is (calls.Unlink p) none k = remove_tree t is p (in_more Unlink p (row_none limits t (calls.Unlink p) none).0) (entry_parent t is Unlink p (row_none limits t (calls.Unlink p) none).1) k
changes_same limits t is (calls.Rmdir p) none k = remove_tree t is p (in_more Rmdir p (row_none limits t (calls.Rmdir p) none).0) (entry_parent t is Rmdir p (row_none limits t (calls.Rmdir p) none).1) k
changes_same limits t is (calls.Rename p q) none k =
    let fits = (row_none limits t (calls.Rename p q) none).0 in
    ap (λ (s : Tree). tree_shapes s k) (sym (after_none limits t (calls.Rename p q) none)) ∙ rename_tree limits t is p q none (from_more (pairs.Rename (entry_limit limits)) p q fits) (to_more (pairs.Rename (entry_limit limits)) p q fits) k
changes_same limits t is (calls.Exchange p q) none k = ap (λ (s : Tree). tree_shapes s k) (sym (after_none limits t (calls.Exchange p q) none)) ∙ exchange_tree limits t is p q none k
changes_same limits t is (calls.Stat p) none k = refl
changes_same limits t is (calls.Readdir p) none k = refl
changes_same limits t is (calls.ListAfter count p after) none k = refl
changes_same limits t is (calls.Read p off count) none k = refl
changes_same limits t is (calls.Write p off bytes) none k = write_tree limits t is p off bytes (write_writes limits t p off bytes is none) k
changes_same limits t is (calls.Truncate p size) none k = fill_tree t is p (resized (bytes_of (tree_shapes t p)) size) (truncate_writes limits t p size is none) k

pub trees_as_maps : TreesAsMaps
unfolding list.reply list.after fault
trees_as_maps limits t call is = (reply_is limits t is call, go (by_text (form limits call)) (row limits t call) refl refl)
  where
    go : (x y : Option Errno) → by_text (form limits call) ≡ x → row limits t call ≡ y → tree_shapes (list.if_sound (or_else x y) t (change limits t call)) ≡ changed (if_sound x (looked (tree_shapes t) (form limits call))).1 (tree_shapes t)
    go (Some e) y i h = refl
    go None (Some e) i h = sym (ap (λ (r : Reply × Change). changed r.1 (tree_shapes t)) (looked_fails (tree_shapes t) (form limits call) e h))
    go None None i h =
        let none : fault limits t call ≡ None = ap₂ or_else i h in
        fun_ext (λ k. changes_same limits t is call none k) ∙ sym (ap (λ (r : Reply × Change). changed r.1 (tree_shapes t)) (looked_done t (form limits call) h))
