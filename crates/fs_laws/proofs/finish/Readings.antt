-- Where the next move is to finish, the rows read at held nodes what the sequential tree reads at the located paths.
use Rattle.std.proofs.Common.{◌≡◌, ℕ, Bool, true, false, not, ◌||◌, List, [], ◌∷◌, ◌++◌, Option, Some, None, refl, sym, ap, ap₂, ◌∙◌, append_assoc, append-nil}
use mathlib.Core.Path.{fun_ext}
use Rattle.fs_names.specs.Keys.{Key, after_prefix, has_more, parent_of, last_of, is_end}
use Rattle.fs_names.specs.Names.{Name, has_name}
use Rattle.fs_names.specs.Parts.{left, HasNames}
use Rattle.fs_names.specs.Shapes.{Shape, Dir, File, is_full}
use Rattle.fs_laws.specs.Changes.{resolve_next, resolve, resolve_dir}
use Rattle.fs_calls.specs.Forms.{NodeCall, AtPair, Fits, PairCall, EntryCall}
use Rattle.fs_calls.specs.Forms as pairs
use Rattle.fs_laws.specs.Maps.{Map, below}
use Rattle.fs_calls.specs.Rows.{as_dir, node_row, entry_row, rename_row, exchange_row}
use Rattle.fs_laws.proofs.finish.RowParts.{to_row, moves_row, rename_row_in_dirs}
use Rattle.fs_calls.specs.declared.errno.Errno.{Errno}
use Rattle.fs_calls.specs.Graphs.{Graph, then_at, at, numbers, graph_shapes, entry_shape, IsGraph}
use Rattle.fs_machine.specs.Moves.{walk_move, walk_errno, path_error, dir_error, there_by}
use Rattle.fs_machine.specs.declared.moves.Move.TheVariants.{Finish as Finishes}
use Rattle.fs_machine.specs.declared.moves.Moved.TheVariants.{Nothing}
use Rattle.fs_machine.specs.Records.{Holdings, Source, Dest, Side, of_side, head_on}
use Rattle.fs_laws.proofs.finish.PairRows.{pair_at, pair_row}
use Rattle.fs_laws.proofs.trees.Prefixes.{prefix_some}
use Rattle.fs_laws.proofs.calls.Located.{resolve_under, key_is, from_more, to_more}
use Rattle.fs_laws.proofs.graphs.Walks.{at_from, at_before, at_child, then_some}
use Rattle.fs_laws.proofs.graphs.TreesOfChanges.{resolve_found}
use Rattle.fs_laws.specs.Invariants.{Forked}

-- the tree that a node spells
abbrev pub shapes_from : Graph → ℕ → Map Shape
shapes_from graph n key = then_at (at graph.child n key) graph.shape

pub below_is : (graph : Graph) (k : Key) (n : ℕ) → numbers graph k ≡ Some n → below k (graph_shapes graph) ≡ shapes_from graph n
below_is graph k n e = fun_ext (λ r. ap (λ (o : Option ℕ). then_at o graph.shape) (at_from graph.child 0 n k r e))

-- a node with names left, at which the walk stops
next_stopped : (here below : Option Shape) (child : Option ℕ) (rest : Option Errno) → (child ≡ None → below ≡ None) → walk_move here child ≡ Finishes Nothing → resolve_next here below rest ≡ Some (walk_errno here)
next_stopped None below child rest h e = refl
next_stopped (Some (File bytes)) below child rest h e = refl
next_stopped (Some (Dir names)) below (Some m) rest h e = cc
next_stopped (Some (Dir names)) below None rest h e = ap (λ (o : Option Shape). resolve_next (Some (Dir names)) o rest) (h refl)

pub stopped : (graph : Graph) → IsGraph graph → (n h : ℕ) (s : Shape) (w l : Key) (x : Name) → graph.shape n ≡ Some s → at graph.child n w ≡ Some h → walk_move (graph.shape h) (graph.child h x) ≡ Finishes Nothing → resolve (shapes_from graph n) (w ++ x ∷ l) ≡ Some (walk_errno (graph.shape h))
stopped graph is n h s w l x u e f =
    resolve_under (shapes_from graph n) w (x ∷ l) (resolve_found graph is n h w s u e)
    ∙ ap (λ (t : Map Shape). resolve t (x ∷ l)) (fun_ext (λ r. ap (λ (o : Option ℕ). then_at o graph.shape) (at_from graph.child n h w r e)))
    ∙ next_stopped (graph.shape h) (shapes_from graph h (x ∷ [])) (graph.child h x) (resolve (below (x ∷ []) (shapes_from graph h)) l)
    (λ i. ap (λ (o : Option ℕ). then_at (then_at o (λ m. at graph.child m [])) graph.shape) i) f

abbrev pub Stops : Graph → ℕ → Key → Type 0
Stops graph h [] = Unit {0}
Stops graph h (x ∷ l) = walk_move (graph.shape h) (graph.child h x) ≡ Finishes Nothing

there : (graph : Graph) (n h : ℕ) (w : Key) → at graph.child n w ≡ Some h → shapes_from graph n w ≡ graph.shape h
there graph n h w e = ap (λ (o : Option ℕ). then_at o graph.shape) e

pub path_read : (graph : Graph) → IsGraph graph → (n : ℕ) (s : Shape) (p : Key) → graph.shape n ≡ Some s → Stops graph n p → path_error p (graph.shape n) ≡ resolve (shapes_from graph n) p
path_read graph is n s [] u f = refl
path_read graph is n s (x ∷ l) u f = sym (stopped graph is n n s [] l x u refl f)

pub dir_read : (graph : Graph) → IsGraph graph → (n h : ℕ) (s : Shape) (w l : Key) → graph.shape n ≡ Some s → at graph.child n w ≡ Some h → Stops graph h l → dir_error l (graph.shape h) ≡ resolve_dir (shapes_from graph n) (w ++ l)
dir_read graph is n h s w [] u e f =
    sym (ap (resolve_dir (shapes_from graph n)) (append-nil w) ∙ ap₂ as_dir (resolve_found graph is n h w s u e) (there graph n h w e))
dir_read graph is n h s w (x ∷ l) u e f = sym (ap (λ (o : Option Errno). as_dir o (shapes_from graph n (w ++ x ∷ l))) (stopped graph is n h s w l x u e f))

entry_read : (graph : Graph) (n h : ℕ) (w : Key) (x : Name) → at graph.child n w ≡ Some h → entry_shape graph h x ≡ shapes_from graph n (w ++ x ∷ [])
entry_read graph n h w x e = sym (ap (λ (o : Option ℕ). then_at o graph.shape) (at_child graph.child n h w x e))

-- stat, readdir, list, read, write, truncate
on_same : (c : NodeCall) (e : Option Errno) (s t : Option Shape) → (e ≡ None → s ≡ t) → node_row c e s ≡ node_row c e t
on_same c (Some e) s t h = refl
on_same c None s t h = ap (node_row c None) (h refl)

pub on_finish : (graph : Graph) → IsGraph graph → (n : ℕ) (s : Shape) (c : NodeCall) (p : Key) → graph.shape n ≡ Some s → Stops graph n p
    → node_row c (path_error p (graph.shape n)) (graph.shape n) ≡ node_row c (resolve (shapes_from graph n) p) (shapes_from graph n p)
on_finish graph is n s c p u f = on_same c (path_error p (graph.shape n)) (graph.shape n) (shapes_from graph n p) (at_end p) ∙ ap (λ (e : Option Errno). node_row c e (shapes_from graph n p)) (path_read graph is n s p u f)
  where
    at_end : (p : Key) → path_error p (graph.shape n) ≡ None → graph.shape n ≡ shapes_from graph n p
    at_end [] e = refl
    at_end (x ∷ l) e = cc

-- mkdir, mknod, unlink, rmdir
in_same : (c : EntryCall) (e : Option Errno) (f g s t : Option Shape) → (e ≡ None → (f ≡ g) × (s ≡ t)) → entry_row c e f s ≡ entry_row c e g t
in_same c (Some e) f g s t h = refl
in_same c None f g s t h = let i : (f ≡ g) × (s ≡ t) = h refl in ap₂ (entry_row c None) i.0 i.1

pub in_finish : (graph : Graph) → IsGraph graph → (n : ℕ) (s : Shape) (c : EntryCall) (p : Key) → HasNames p → graph.shape n ≡ Some s → Stops graph n (parent_of p)
    → entry_row c (dir_error (parent_of p) (graph.shape n)) (graph.shape n) (entry_shape graph n (last_of p))
    ≡ entry_row c (resolve_dir (shapes_from graph n) (parent_of p)) (shapes_from graph n (parent_of p)) (shapes_from graph n p)
in_finish graph is n s c p m u f =
    in_same c (dir_error (parent_of p) (graph.shape n)) (graph.shape n) (shapes_from graph n (parent_of p)) (entry_shape graph n (last_of p)) (shapes_from graph n p) (at_end (parent_of p) refl)
    ∙ ap (λ (e : Option Errno). entry_row c e (shapes_from graph n (parent_of p)) (shapes_from graph n p)) (dir_read graph is n n s [] (parent_of p) u refl f)
  where
    at_end : (d : Key) → parent_of p ≡ d → dir_error d (graph.shape n) ≡ None → (graph.shape n ≡ shapes_from graph n (parent_of p)) × (entry_shape graph n (last_of p) ≡ shapes_from graph n p)
    at_end [] i e = (
      ap (λ (l : Key). shapes_from graph n l) (sym i),
      entry_read graph n n [] (last_of p) refl ∙ ap (shapes_from graph n) (ap (λ (l : Key). l ++ last_of p ∷ []) (sym i) ∙ sym (key_is p m)),
    )
    at_end (x ∷ l) i e = cc

-- a pair at its common directory
pub record ForkAt (graph : Graph) (n : ℕ) (p q : Key) (st : Holdings) : Type 0 where
  pub fork : Forked graph n p q st
  pub source_stops : Stops graph st.source.node (left st.source.walked (parent_of p))
  -- the destination head sets out when the source parent is a directory
  pub dest_stops : dir_error (left st.source.walked (parent_of p)) (graph.shape st.source.node) ≡ None → Stops graph st.dest.node (left st.dest.walked (parent_of q))

pub arrived : (l : Key) (s : Option Shape) → dir_error l s ≡ None → l ≡ []
arrived [] s e = refl
arrived (x ∷ l) s e = cc

-- a parent that is there is a directory
pub dir_of_none : (l : Key) (s : Option Shape) → dir_error l s ≡ None → (names : List Name) × (s ≡ Some (Dir names))
dir_of_none [] None e = cc
dir_of_none [] (Some (Dir names)) e = (names, refl)
dir_of_none [] (Some (File bytes)) e = cc
dir_of_none (x ∷ l) s e = cc

-- a head that has arrived has walked its path's parent
pub path_walked : (side : Side) (graph : Graph) (n : ℕ) (p q : Key) (st : Holdings) → Forked graph n p q st → dir_error (left (head_on side st).walked (parent_of (of_side side p q))) (graph.shape (head_on side st).node) ≡ None → parent_of (of_side side p q) ≡ (head_on side st).walked
path_walked side graph n p q st f none = f.path side ∙ ap (λ (l : Key). (head_on side st).walked ++ l) (arrived (left (head_on side st).walked (parent_of (of_side side p q))) (graph.shape (head_on side st).node) none) ∙ append-nil (head_on side st).walked

-- and its entry is at its path
pub entry_key : (side : Side) (k : Key) (c : PairCall) (p q : Key) (st : Holdings) → Fits (AtPair c p q) → parent_of (of_side side p q) ≡ (head_on side st).walked → (k ++ (head_on side st).walked) ++ last_of (of_side side p q) ∷ [] ≡ k ++ of_side side p q
entry_key side k c p q st fits i = append_assoc k (head_on side st).walked (last_of (of_side side p q) ∷ []) ∙ ap (λ (l : Key). k ++ l) (ap (λ (l : Key). l ++ last_of (of_side side p q) ∷ []) (sym i) ∙ sym (key_is (of_side side p q) (more side)))
  where
    more : (side : Side) → HasNames (of_side side p q)
    more Source = from_more c p q fits
    more Dest = to_more c p q fits

some_names : (x : Name) (names : List Name) → has_name x names ≡ true → (y : Name) × (ys : List Name) × (names ≡ y ∷ ys)
some_names x [] e = cc
some_names x (y ∷ ys) e = (y, ys, refl)

full_there : (m : Shape) (a b : Name) (xs ys : List Name) (room : Bool) → to_row m (Some (Dir (a ∷ xs))) room ≡ to_row m (Some (Dir (b ∷ ys))) room
full_there (Dir names) a b xs ys room = refl
full_there (File bytes) a b xs ys room = refl

from_full : (m : Option Shape) (same_path : Bool) (a b : Name) (xs ys : List Name) (room : Bool) → rename_row_in_dirs m same_path (Some (Dir (a ∷ xs))) room ≡ rename_row_in_dirs m same_path (Some (Dir (b ∷ ys))) room
from_full None same_path a b xs ys room = refl
from_full (Some m) true a b xs ys room = refl
from_full (Some m) false a b xs ys room = ap moves_row (full_there m a b xs ys room)

-- a q that is a proper prefix of a p that is there is a directory with entries
prefix_read : (graph : Graph) → IsGraph graph → (n : ℕ) (p q : Key) (o : Option Key) (same_path room : Bool) → after_prefix q p ≡ o
    → rename_row_in_dirs (shapes_from graph n p) same_path (there_by (has_more o) (shapes_from graph n q)) room ≡ rename_row_in_dirs (shapes_from graph n p) same_path (shapes_from graph n q) room
prefix_read graph is n p q None same_path room e = refl
prefix_read graph is n p q (Some []) same_path room e = refl
prefix_read graph is n p q (Some (z ∷ r)) same_path room e = go (at graph.child n p) refl
  where
    go : (o : Option ℕ) → at graph.child n p ≡ o → rename_row_in_dirs (then_at (at graph.child n p) graph.shape) same_path (Some (Dir ([] ∷ []))) room ≡ rename_row_in_dirs (then_at (at graph.child n p) graph.shape) same_path (shapes_from graph n q) room
    go None i = rw i refl
    go (Some m) i =
        let b : (h : ℕ) × (at graph.child n q ≡ Some h) × (at graph.child h (z ∷ r) ≡ Some m) = at_before graph.child n m q (z ∷ r) (sym (ap (at graph.child n) (prefix_some q p (z ∷ r) e)) ∙ i) in
        let g : (c : ℕ) × (graph.child b.0 z ≡ Some c) × (at graph.child c r ≡ Some m) = then_some (graph.child b.0 z) (λ c. at graph.child c r) m b.2 in
        let d : (names : List Name) × (graph.shape b.0 ≡ Some (Dir names)) × (has_name z names ≡ true) = is.of_dir b.0 g.0 z g.1 in
        let f : (y : Name) × (ys : List Name) × (d.0 ≡ y ∷ ys) = some_names z d.0 d.2 in
        from_full (then_at (at graph.child n p) graph.shape) same_path [] f.0 [] f.1 room
        ∙ ap (λ (t : Option Shape). rename_row_in_dirs (then_at (at graph.child n p) graph.shape) same_path t room) (sym (there graph n b.0 q b.1 ∙ d.1 ∙ ap (λ (ns : List Name). Some (Dir ns)) f.2))

rename_same : (d e f : Option Errno) (m n : Option Shape) (b : Bool) (s t : Option Shape) (r u : Bool) → (d ≡ None → (e ≡ f) × (e ≡ None → rename_row_in_dirs m b s r ≡ rename_row_in_dirs n b t u)) → rename_row d e m b s r ≡ rename_row d f n b t u
rename_same (Some d) e f m n b s t r u h = refl
rename_same None e f m n b s t r u h = go e f (h refl)
  where
    go : (e f : Option Errno) → (e ≡ f) × (e ≡ None → rename_row_in_dirs m b s r ≡ rename_row_in_dirs n b t u) → rename_row None e m b s r ≡ rename_row None f n b t u
    go None None i = i.1 refl
    go (Some e) (Some f) i = let z : ◌≡◌ {A = Option Errno} (Some e) (Some f) = i.0 in cc
    go None (Some f) i = let z : ◌≡◌ {A = Option Errno} None (Some f) = i.0 in cc
    go (Some e) None i = let z : ◌≡◌ {A = Option Errno} (Some e) None = i.0 in cc

exchange_same : (d e f : Option Errno) (m n : Option Shape) (b : Bool) (s t : Option Shape) → (d ≡ None → (e ≡ f) × (e ≡ None → (m ≡ n) × (s ≡ t))) → exchange_row d e m b s ≡ exchange_row d f n b t
exchange_same (Some d) e f m n b s t h = refl
exchange_same None e f m n b s t h = go e (h refl).1 ∙ ap (λ (x : Option Errno). exchange_row None x n b t) (h refl).0
  where
    go : (e : Option Errno) → (e ≡ None → (m ≡ n) × (s ≡ t)) → exchange_row None e m b s ≡ exchange_row None e n b t
    go (Some e) i = refl
    go None i = ap₂ (λ (x y : Option Shape). exchange_row None None x b y) (i refl).0 (i refl).1

-- what each head reads where it stands is what stands at its path
pub record Reads (graph : Graph) (n : ℕ) (p q : Key) (st : Holdings) : Type 0 where
  pub source : dir_error (left st.source.walked (parent_of p)) (graph.shape st.source.node) ≡ resolve_dir (shapes_from graph n) (parent_of p)
  -- the destination head only where the source parent is a directory
  pub dest : dir_error (left st.source.walked (parent_of p)) (graph.shape st.source.node) ≡ None → dir_error (left st.dest.walked (parent_of q)) (graph.shape st.dest.node) ≡ resolve_dir (shapes_from graph n) (parent_of q)
  pub one : dir_error (left st.source.walked (parent_of p)) (graph.shape st.source.node) ≡ None → entry_shape graph st.source.node (last_of p) ≡ shapes_from graph n p
  pub other : dir_error (left st.dest.walked (parent_of q)) (graph.shape st.dest.node) ≡ None → entry_shape graph st.dest.node (last_of q) ≡ shapes_from graph n q
  pub parent : dir_error (left st.dest.walked (parent_of q)) (graph.shape st.dest.node) ≡ None → graph.shape st.dest.node ≡ shapes_from graph n (parent_of q)

pub reads_of : (graph : Graph) → IsGraph graph → (n : ℕ) (s : Shape) (p q : Key) (st : Holdings) → HasNames p → HasNames q → graph.shape n ≡ Some s → ForkAt graph n p q st → Reads graph n p q st
reads_of graph is n s p q st mp mq u at_c = record {
  source = dir_read graph is n st.source.node s st.source.walked (left st.source.walked (parent_of p)) u (at_c.fork.stands Source) at_c.source_stops ∙ ap (resolve_dir (shapes_from graph n)) (sym (at_c.fork.path Source));
  dest = λ i. dir_read graph is n st.dest.node s st.dest.walked (left st.dest.walked (parent_of q)) u (at_c.fork.stands Dest) (at_c.dest_stops i) ∙ ap (resolve_dir (shapes_from graph n)) (sym (at_c.fork.path Dest));
  one = λ i. entry_is Source mp (path_walked Source graph n p q st at_c.fork i);
  other = λ j. entry_is Dest mq (path_walked Dest graph n p q st at_c.fork j);
  parent = λ j. sym (ap (shapes_from graph n) (path_walked Dest graph n p q st at_c.fork j) ∙ there graph n st.dest.node st.dest.walked (at_c.fork.stands Dest));
}
  where
    entry_is : (side : Side) → HasNames (of_side side p q) → parent_of (of_side side p q) ≡ (head_on side st).walked → entry_shape graph (head_on side st).node (last_of (of_side side p q)) ≡ shapes_from graph n (of_side side p q)
    entry_is side more i =
        entry_read graph n (head_on side st).node (head_on side st).walked (last_of (of_side side p q)) (at_c.fork.stands side)
        ∙ ap (shapes_from graph n) (ap (λ (l : Key). l ++ last_of (of_side side p q) ∷ []) (sym i) ∙ sym (key_is (of_side side p q) more))

-- each call on two entries
pub pair_finish : (graph : Graph) → IsGraph graph → (n : ℕ) (s : Shape) (c : PairCall) (p q : Key) (st : Holdings) → HasNames p → HasNames q → graph.shape n ≡ Some s → ForkAt graph n p q st
    → pair_at graph c p q st ≡ pair_row (shapes_from graph n) c p q
pair_finish graph is n s c p q st mp mq u at_c = go c
  where
    reads : Reads graph n p q st
    reads = reads_of graph is n s p q st mp mq u at_c

    rest : (most : ℕ) → dir_error (left st.source.walked (parent_of p)) (graph.shape st.source.node) ≡ None → dir_error (left st.dest.walked (parent_of q)) (graph.shape st.dest.node) ≡ None
        → rename_row_in_dirs (entry_shape graph st.source.node (last_of p)) (is_end (after_prefix p q)) (there_by (has_more (after_prefix q p)) (entry_shape graph st.dest.node (last_of q))) (is_end (after_prefix (parent_of p) (parent_of q)) || not (is_full most (graph.shape st.dest.node)))
        ≡ rename_row_in_dirs (shapes_from graph n p) (is_end (after_prefix p q)) (shapes_from graph n q) (is_end (after_prefix (parent_of p) (parent_of q)) || not (is_full most (shapes_from graph n (parent_of q))))
    rest most i j =
        ap₂ (λ (m t : Option Shape). rename_row_in_dirs m (is_end (after_prefix p q)) (there_by (has_more (after_prefix q p)) t) (is_end (after_prefix (parent_of p) (parent_of q)) || not (is_full most (graph.shape st.dest.node)))) (reads.one i) (reads.other j)
        ∙ ap (λ (t : Option Shape). rename_row_in_dirs (shapes_from graph n p) (is_end (after_prefix p q)) (there_by (has_more (after_prefix q p)) (shapes_from graph n q)) (is_end (after_prefix (parent_of p) (parent_of q)) || not (is_full most t))) (reads.parent j)
        ∙ prefix_read graph is n p q (after_prefix q p) (is_end (after_prefix p q)) (is_end (after_prefix (parent_of p) (parent_of q)) || not (is_full most (shapes_from graph n (parent_of q)))) refl

    go : (c : PairCall) → pair_at graph c p q st ≡ pair_row (shapes_from graph n) c p q
    go (pairs.Rename most) =
        rename_same (dir_error (left st.source.walked (parent_of p)) (graph.shape st.source.node)) (dir_error (left st.dest.walked (parent_of q)) (graph.shape st.dest.node)) (resolve_dir (shapes_from graph n) (parent_of q)) (entry_shape graph st.source.node (last_of p)) (shapes_from graph n p) (is_end (after_prefix p q))
        (there_by (has_more (after_prefix q p)) (entry_shape graph st.dest.node (last_of q))) (shapes_from graph n q)
        (is_end (after_prefix (parent_of p) (parent_of q)) || not (is_full most (graph.shape st.dest.node))) (is_end (after_prefix (parent_of p) (parent_of q)) || not (is_full most (shapes_from graph n (parent_of q))))
        (λ i. (reads.dest i, λ j. rest most i j))
        ∙ ap (λ (e : Option Errno). rename_row e (resolve_dir (shapes_from graph n) (parent_of q)) (shapes_from graph n p) (is_end (after_prefix p q)) (shapes_from graph n q) (is_end (after_prefix (parent_of p) (parent_of q)) || not (is_full most (shapes_from graph n (parent_of q))))) reads.source
    go pairs.Exchange =
        exchange_same (dir_error (left st.source.walked (parent_of p)) (graph.shape st.source.node)) (dir_error (left st.dest.walked (parent_of q)) (graph.shape st.dest.node)) (resolve_dir (shapes_from graph n) (parent_of q))
        (entry_shape graph st.source.node (last_of p)) (shapes_from graph n p) (is_end (after_prefix p q)) (entry_shape graph st.dest.node (last_of q)) (shapes_from graph n q)
        (λ i. (reads.dest i, λ j. (reads.one i, reads.other j)))
        ∙ ap (λ (e : Option Errno). exchange_row e (resolve_dir (shapes_from graph n) (parent_of q)) (shapes_from graph n p) (is_end (after_prefix p q)) (shapes_from graph n q)) reads.source
