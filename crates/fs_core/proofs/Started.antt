-- A row that fits keeps a graph at which a timeline can begin.
use Rattle.std.proofs.Common.{◌≡◌, ◌≢◌, ℕ, zero, suc, ◌+◌, ◌<◌, ◌≤◌, Bool, true, false, not, cond, List, [], ◌∷◌, ◌++◌, length, Option, Some, None, IsTrue, refl, sym, ap, ap₂, ◌∙◌, subst, arith}
use Rattle.std.specs.Prelude.{nat_le}
use Rattle.std.proofs.lemmas.Bool.Decides.{nat_tests}
use mathlib.Core.Path.{fun_ext}
use Rattle.fs_names.specs.Keys.{Key, parent_of}
use Rattle.fs_names.specs.Limits.{file_limit, entry_limit}
use Rattle.fs_names.specs.Names.{Name, inserted_name, has_name}
use Rattle.fs_names.specs.Shapes.{Shape, Dir, File, is_dir, is_full, is_there, names_of}
use Rattle.fs_names.specs.declared.kind.Kind.{Kind}
use Rattle.fs_names.specs.declared.kind.Kind.TheVariants as kinds
use Rattle.fs_names.specs.declared.limits.Limits.{Limits}
use Rattle.fs_calls.specs.Tree as trees
use Rattle.fs_calls.specs.Tree.{Tree, Node, IsTree, root_tree, look, inserted, names_in}
use Rattle.fs_calls.specs.Sights.{tree_shapes, shape_of}
use Rattle.fs_calls.proofs.KeyLemmas.{parent_of-snoc}
use Rattle.fs_calls.proofs.ListLemmas.{true_T}
use Rattle.fs_calls.proofs.TreeLaws.{tree-inserted}
use Rattle.fs_seq.specs.declared.rows.Row.{Row}
use Rattle.fs_seq.specs.Rows.{key_of, row_of, node_of_kind, may_have, last_key, fits}
use Rattle.fs_seq.proofs.Appended.{AllBelow, all_below, look-above, inserted-last, not_below_root, in_order, first_holds, second_holds}
use Rattle.fs_nodes.specs.Graphs.{Graph, IsGraph, IsReached, then_at, numbers, graph_shapes, set_at, empty_graph, linked_in, reserved_in}
use Rattle.fs_nodes.specs.Stores.{used_below}
use Rattle.fs_machine.specs.States.{IsStart, AreRising}
use Rattle.fs_laws.specs.Maps.{Map, put}
use Rattle.fs_laws.proofs.graphs.Walks.{eqb_refl, at_child, then_some, set_here}
use Rattle.fs_laws.proofs.graphs.Link.{graph_linked}
use Rattle.fs_laws.proofs.graphs.Release.{shapes_reserved, graph_reserved}
use Rattle.fs_laws.proofs.graphs.TreesOfChanges.{CanLink, numbers_linked, shapes_linked}
use Rattle.fs_laws.proofs.trees.ChangesAsMaps.{Bare, A_dir, A_file, seen_made, names_seen}
use Rattle.fs_laws.proofs.trees.Commuting.{put_other}
use Rattle.fs_laws.proofs.calls.OwnRecord.{reached_used}
use Rattle.fs_laws.proofs.events.Help.{upd_else}
use Rattle.fs_laws.proofs.events.OneCallChanged.{Place, Here, Else, place}
use Rattle.fs_laws.proofs.states.StartsEmpty.{starts_empty}
use Rattle.fs_laws.proofs.finish.Kinds.{ordered_with, one_more}
use Rattle.fs_core_seats.specs.code.Searches.{AreBelow}
use Rattle.fs_core.specs.code.Filling.{shape_of_kind, shape_of_row, CanAdd, IsAdded}

-- ---- what a new node is

bare_kind : (kind : Kind) (bytes : List ℕ) → Bare (node_of_kind kind bytes) (shape_of_kind kind bytes)
bare_kind kinds.Dir bytes = A_dir refl refl
bare_kind kinds.File bytes = A_file bytes refl refl

no_names : (kind : Kind) (bytes : List ℕ) (names : List Name) → shape_of_kind kind bytes ≡ Dir names → names ≡ []
no_names kinds.Dir bytes names e = cc
no_names kinds.File bytes names e = cc

few_bytes : (limits : Limits) (kind : Kind) (bytes others : List ℕ) → may_have limits kind bytes ≡ true → shape_of_kind kind bytes ≡ File others → length others ≤ file_limit limits
few_bytes limits kinds.Dir bytes others may e = cc
few_bytes limits kinds.File bytes others may e =
    let same : bytes ≡ others = cc in
    let small : nat_le (length others) (file_limit limits) ≡ true = ap (λ (bs : List ℕ). nat_le (length bs) (file_limit limits)) (sym same) ∙ may in
    grind (arith, nat_tests)

-- ---- where a row fits

-- a directory that is seen stands there
dir_there : (t : Tree) (k : Key) (o : Option Node) → look t k ≡ o → is_dir (tree_shapes t k) ≡ true → look t k ≡ Some trees.Dir
dir_there t k None e h = let none : is_dir (tree_shapes t k) ≡ false = ap (λ (o : Option Node). is_dir (shape_of t k o)) e in cc
dir_there t k (Some trees.Dir) e h = e
dir_there t k (Some (trees.File bytes)) e h = let none : is_dir (tree_shapes t k) ≡ false = ap (λ (o : Option Node). is_dir (shape_of t k o)) e in cc

-- one that is not full has room for one more
room_for : (most : ℕ) (t : Tree) (k : Key) → look t k ≡ Some trees.Dir → not (is_full most (tree_shapes t k)) ≡ true → length (names_in t k) + 1 ≤ most
room_for most t k there room =
    let full : not (nat_le most (length (names_in t k))) ≡ true = sym (ap (λ (o : Option Node). not (is_full most (shape_of t k o))) there) ∙ room in
    grind (arith, nat_tests)

-- a row that fits has a name
pub fits_named : (limits : Limits) (t : Tree) (row : Row) → fits limits t row ≡ true → key_of row ≢ []
fits_named limits t row fit e =
    let no = not_below_root (last_key t) (key_of row) (ap length e) in
    let yes = first_holds _ _ (first_holds _ _ (first_holds _ _ fit)) in
    let z : true ≡ false = sym yes ∙ no in
    cc

module _ (limit : ℕ) (limits : Limits) (t : Tree) (g : Graph) (start : IsStart limit (record { limits = limits; tree = t }) g) (row : Row) (d : Key) (x : Name) (split : key_of row ≡ d ++ x ∷ []) (fit : fits limits t row ≡ true) where
  parent_is : parent_of (key_of row) ≡ d
  parent_is = ap parent_of split ∙ parent_of-snoc d x

  -- all keys so far are below the row's
  all : AllBelow t (d ++ x ∷ [])
  all = subst (AllBelow t) split (all_below t (key_of row) (true_T start.tree.sorted) (in_order limits t row fit))

  none : look t (d ++ x ∷ []) ≡ None
  none = look-above t (d ++ x ∷ []) all

  there : look t d ≡ Some trees.Dir
  there = dir_there t d (look t d) refl (ap (λ (k : Key). is_dir (tree_shapes t k)) (sym parent_is) ∙ second_holds _ _ (first_holds _ _ (first_holds _ _ fit)))

  has_room : length (names_in t d) + 1 ≤ entry_limit limits
  has_room = room_for (entry_limit limits) t d there (ap (λ (k : Key). not (is_full (entry_limit limits) (tree_shapes t k))) (sym parent_is) ∙ second_holds _ _ (first_holds _ _ fit))

  -- the directory's number
  at_dir : (dir : ℕ) × (numbers g d ≡ Some dir) × (g.shape dir ≡ Some (Dir (names_in t d)))
  at_dir = then_some (numbers g d) g.shape (Dir (names_in t d)) (ap (λ (m : Map Shape). m d) start.spelled ∙ ap (shape_of t d) there)

  -- no entry of it has the name
  absent : (dir : ℕ) → numbers g d ≡ Some dir → g.child dir x ≡ None
  absent dir here = go (g.child dir x) refl
    where
      go : (o : Option ℕ) → g.child dir x ≡ o → o ≡ None
      go None e = refl
      go (Some m) e =
          let u : (s : Shape) × (g.shape m ≡ Some s) = start.is_graph.to_used dir m x e in
          let shown : graph_shapes g (d ++ x ∷ []) ≡ Some u.0 = ap (λ (o : Option ℕ). then_at o g.shape) (at_child g.child 0 dir d x here ∙ e) ∙ u.1 in
          let seen : graph_shapes g (d ++ x ∷ []) ≡ None = ap (λ (m : Map Shape). m (d ++ x ∷ [])) start.spelled ∙ ap (shape_of t (d ++ x ∷ [])) none in
          let z : ◌≡◌ {A = Option Shape} None (Some u.0) = sym seen ∙ shown in
          cc

-- a row that fits can be added
pub can_add : (limit : ℕ) (limits : Limits) (t : Tree) (g : Graph) (row : Row) → IsStart limit (record { limits = limits; tree = t }) g → fits limits t row ≡ true → CanAdd g row
can_add limit limits t g row start fit = record {
  is_graph = start.is_graph;
  named = fits_named limits t row fit;
  place = λ d x split. (
      let p = at_dir limit limits t g start row d x split fit in
      (p.0, p.1, subst (λ (o : Option Shape). IsTrue (is_dir o)) (sym p.2) refl, absent limit limits t g start row d x split fit p.0 p.1));
}

-- ---- a row that was added

module _ (limit : ℕ) (limits : Limits) (t : Tree) (g : Graph) (start : IsStart limit (record { limits = limits; tree = t }) g) (row : Row) (d : Key) (x : Name) (split : key_of row ≡ d ++ x ∷ []) (fit : fits limits t row ≡ true) (dir n : ℕ) (parent : numbers g d ≡ Some dir) (unused : g.shape n ≡ None) (within : n < limit) where
  abbrev pub reserved : Graph
  reserved = reserved_in n (shape_of_row row) g

  abbrev pub new : Graph
  new = linked_in dir x n (reserved_in n (shape_of_row row) g)

  of_tree : look t d ≡ Some trees.Dir
  of_tree = there limit limits t g start row d x split fit

  nothing : look t (d ++ x ∷ []) ≡ None
  nothing = none limit limits t g start row d x split fit

  dir_is : g.shape dir ≡ Some (Dir (names_in t d))
  dir_is =
      let p = at_dir limit limits t g start row d x split fit in
      let same : ◌≡◌ {A = Option ℕ} (Some p.0) (Some dir) = sym p.1 ∙ parent in
      let z : p.0 ≡ dir = cc in
      ap g.shape (sym z) ∙ p.2

  differs : dir ≡ n → ⊥
  differs e = let z : ◌≡◌ {A = Option Shape} None (Some (Dir (names_in t d))) = sym unused ∙ ap g.shape (sym e) ∙ dir_is in cc

  dir_stays : reserved.shape dir ≡ Some (Dir (names_in t d))
  dir_stays = upd_else n (Some (shape_of_row row)) g.shape dir differs ∙ dir_is

  node_is : reserved.shape n ≡ Some (shape_of_row row)
  node_is = ap (λ (b : Bool). cond b (Some (shape_of_row row)) (g.shape n)) (eqb_refl n)

  reserved_is : IsGraph reserved
  reserved_is = graph_reserved g start.is_graph n (shape_of_row row) unused (λ names y e h. let z : names ≡ [] = no_names row.kind row.bytes.items names e in let w : true ≡ false = sym h ∙ ap (has_name y) z in cc)

  can : CanLink reserved d dir x n
  can = record {
    dir_at = parent;
    free = absent limit limits t g start row d x split fit dir parent;
    used = (shape_of_row row, node_is);
    unlinked = λ key e. let u = reached_used g start.is_graph key n e in let z : ◌≡◌ {A = Option Shape} None (Some u.0) = sym unused ∙ u.1 in cc;
  }

  new_is : IsGraph new
  new_is = graph_linked reserved reserved_is d dir x n (names_in t d) can dir_stays

  -- the tree
  at_end : inserted t (d ++ x ∷ []) (row_of row).1 ≡ t ++ row_of row ∷ []
  at_end = inserted-last t (d ++ x ∷ []) (row_of row).1 (all limit limits t g start row d x split fit) ∙ ap (λ (k : Key). t ++ (k, (row_of row).1) ∷ []) (sym split)

  tree_new : IsTree (t ++ row_of row ∷ [])
  tree_new = subst IsTree at_end (tree-inserted t (d ++ x ∷ []) (row_of row).1 start.tree
      (λ e. let z : ◌≡◌ {A = Option Node} None (Some trees.Dir) = sym nothing ∙ e in cc)
      (λ e y same. ap (look t) (sym (parent_of-snoc e y) ∙ ap parent_of (sym same) ∙ parent_of-snoc d x) ∙ of_tree))

  spelled_new : graph_shapes new ≡ tree_shapes (t ++ row_of row ∷ [])
  spelled_new =
      shapes_linked reserved reserved_is d dir x n can
      ∙ ap₂ (λ (o : Option Shape) (m : Map Shape). put (d ++ x ∷ []) o m) node_is
      (ap₂ (λ (ns : List Name) (m : Map Shape). put d (Some (Dir (inserted_name x ns))) m) (ap names_of dir_stays ∙ sym (names_seen t d of_tree)) (shapes_reserved g start.is_graph n (shape_of_row row) unused ∙ start.spelled))
      ∙ sym (fun_ext (seen_made t d x (row_of row).1 (shape_of_row row) start.tree (bare_kind row.kind row.bytes.items) of_tree nothing))
      ∙ ap tree_shapes at_end

  -- what holds of each number in use: of the directory, of the new one, and of those before
  in_use : (P : ℕ → Shape → Type 0) → P dir (Dir (inserted_name x (names_in t d))) → P n (shape_of_row row) → ((m : ℕ) (s : Shape) → g.shape m ≡ Some s → P m s) → (m : ℕ) (s : Shape) → new.shape m ≡ Some s → P m s
  in_use P at_parent at_node before m s e = by (place dir (Some (Dir (inserted_name x (names_of (reserved.shape dir))))) reserved.shape m) (place n (Some (shape_of_row row)) g.shape m)
    where
      by : Place (Option Shape) dir (Some (Dir (inserted_name x (names_of (reserved.shape dir))))) reserved.shape m → Place (Option Shape) n (Some (shape_of_row row)) g.shape m → P m s
      by (Here i j) _ =
          let z : ◌≡◌ {A = Option Shape} (Some (Dir (inserted_name x (names_in t d)))) (Some s) = ap (λ (ns : List Name). Some (Dir (inserted_name x ns))) (sym (ap names_of dir_stays)) ∙ sym j ∙ e in
          let y : Dir (inserted_name x (names_in t d)) ≡ s = cc in
          subst (λ (k : ℕ). P k s) (sym i) (subst (P dir) y at_parent)
      by (Else h j) (Here i k) =
          let z : ◌≡◌ {A = Option Shape} (Some (shape_of_row row)) (Some s) = sym k ∙ sym j ∙ e in
          let y : shape_of_row row ≡ s = cc in
          subst (λ (k : ℕ). P k s) (sym i) (subst (P n) y at_node)
      by (Else h j) (Else i k) = before m s (sym k ∙ sym j ∙ e)

  -- what was reached still is
  stays : (m : ℕ) (key : Key) → numbers g key ≡ Some m → numbers new key ≡ Some m
  stays m key e =
      ap (λ (tree : Map ℕ). tree key) (numbers_linked reserved reserved_is d dir x n can)
      ∙ put_other (d ++ x ∷ []) (Some n) (numbers g) key (λ i. let z : ◌≡◌ {A = Option ℕ} (Some m) None = sym e ∙ ap (numbers g) i ∙ at_child g.child 0 dir d x parent ∙ can.free in cc)
      ∙ e

  pub start_new : IsStart limit (record { limits = limits; tree = t ++ row_of row ∷ [] }) new
  start_new = record {
    least = start.least;
    tree = tree_new;
    spelled = spelled_new;
    is_graph = new_is;
    bounded = record {
      entries = λ m names e. in_use (λ m s. (names : List Name) → s ≡ Dir names → length names ≤ entry_limit limits)
          (λ names e. let z : inserted_name x (names_in t d) ≡ names = cc in let a : length (inserted_name x (names_in t d)) ≤ length (names_in t d) + 1 = one_more x (names_in t d) in let b : length (names_in t d) + 1 ≤ entry_limit limits = has_room limit limits t g start row d x split fit in subst (λ (ns : List Name). length ns ≤ entry_limit limits) z (omega (arith, a, b)))
          (λ names e. subst (λ (ns : List Name). length ns ≤ entry_limit limits) (sym (no_names row.kind row.bytes.items names e)) (omega arith))
          (λ m s e names f. start.bounded.entries m names (e ∙ ap (λ (s : Shape). Some s) f)) m (Dir names) e names refl;
      bytes = λ m bytes e. in_use (λ m s. (bytes : List ℕ) → s ≡ File bytes → length bytes ≤ file_limit limits)
          (λ bytes e. cc)
          (λ bytes e. few_bytes limits row.kind row.bytes.items bytes (second_holds _ _ fit) e)
          (λ m s e bytes f. start.bounded.bytes m bytes (e ∙ ap (λ (s : Shape). Some s) f)) m (File bytes) e bytes refl;
    };
    rising = λ m names e. in_use (λ m s. (names : List Name) → s ≡ Dir names → AreRising names)
        (λ names e. let z : inserted_name x (names_in t d) ≡ names = cc in subst AreRising z (ordered_with x (names_in t d) (start.rising dir (names_in t d) dir_is)))
        (λ names e. subst AreRising (sym (no_names row.kind row.bytes.items names e)) tt)
        (λ m s e names f. start.rising m names (e ∙ ap (λ (s : Shape). Some s) f)) m (Dir names) e names refl;
    below = in_use (λ m s. m < limit) (start.below dir (Dir (names_in t d)) dir_is) within start.below;
    reached = in_use (λ m s. IsReached new.child 0 m)
        (d, stays dir d parent)
        (d ++ x ∷ [], at_child new.child 0 dir d x (stays dir d parent) ∙ set_here dir x (Some n) g.child)
        (λ m s e. let q = start.reached m s e in (q.0, stays m q.0 q.1));
  }

-- ---- how many numbers are in use

-- one more where there is a node
abbrev one_there : Option Shape → ℕ → ℕ
one_there o n = cond (is_there o) (n + 1) n

used_same : (f h : ℕ → Option Shape) (limit : ℕ) → ((m : ℕ) → is_there (h m) ≡ is_there (f m)) → used_below h limit ≡ used_below f limit
used_same f h zero e = refl
used_same f h (suc k) e = ap₂ (λ (b : Bool) (n : ℕ). cond b (n + 1) n) (e k) (used_same f h k e)

used_apart : (f : ℕ → Option Shape) (n : ℕ) (v : Option Shape) (limit : ℕ) → limit ≤ n → used_below (set_at n v f) limit ≡ used_below f limit
used_apart f n v zero less = refl
used_apart f n v (suc k) less = ap₂ one_there (by (place n v f k)) (used_apart f n v k (omega (arith, less)))
  where
    by : Place (Option Shape) n v f k → set_at n v f k ≡ f k
    by (Here i j) = absurd (omega (arith, less, i))
    by (Else h j) = j

-- one number comes into use
used_more : (f : ℕ → Option Shape) (n : ℕ) (s : Shape) (limit : ℕ) → f n ≡ None → n < limit → used_below (set_at n (Some s) f) limit ≡ used_below f limit + 1
used_more f n s zero free within = absurd (omega (arith, within))
used_more f n s (suc k) free within = by (place n (Some s) f k) (used_more f n s k free)
  where
    more : (o : Option Shape) (a b : ℕ) → a ≡ b + 1 → one_there o a ≡ one_there o b + 1
    more None a b h = h
    more (Some t) a b h = ap (λ (n : ℕ). n + 1) h

    by : Place (Option Shape) n (Some s) f k → (n < k → used_below (set_at n (Some s) f) k ≡ used_below f k + 1) → one_there (set_at n (Some s) f k) (used_below (set_at n (Some s) f) k) ≡ one_there (f k) (used_below f k) + 1
    by (Here i j) _ =
        ap₂ one_there j (used_apart f n (Some s) k (omega (arith, i)))
        ∙ sym (ap (λ (o : Option Shape). one_there o (used_below f k) + 1) (ap f i ∙ free))
    by (Else h j) rest = ap (λ (o : Option Shape). one_there o (used_below (set_at n (Some s) f) k)) j ∙ more (f k) (used_below (set_at n (Some s) f) k) (used_below f k) (rest (apart h))
      where
        apart : (k ≡ n → ⊥) → n < k
        apart h = grind arith

pub used_most : (f : ℕ → Option Shape) (limit : ℕ) → used_below f limit ≤ limit
used_most f zero = omega arith
used_most f (suc k) = by (f k) (used_most f k)
  where
    by : (o : Option Shape) → used_below f k ≤ k → one_there o (used_below f k) ≤ suc k
    by None less = omega (arith, less)
    by (Some s) less = omega (arith, less)

-- ---- what an added row leaves

pub added_starts : (limit : ℕ) (limits : Limits) (t : Tree) (g after : Graph) (row : Row) (node : ℕ) → IsStart limit (record { limits = limits; tree = t }) g → fits limits t row ≡ true → IsAdded limit g after row node → IsStart limit (record { limits = limits; tree = t ++ row_of row ∷ [] }) after
added_starts limit limits t g after row node start fit a = subst (λ (h : Graph). IsStart limit (record { limits = limits; tree = t ++ row_of row ∷ [] }) h) (sym a.added) (start_new limit limits t g start row a.above a.name a.split fit a.dir node a.parent a.free a.within)

-- one number more is in use
pub added_count : (limit : ℕ) (g after : Graph) (row : Row) (node : ℕ) → IsGraph g → IsAdded limit g after row node → used_below after.shape limit ≡ used_below g.shape limit + 1
added_count limit g after row node is a =
    ap (λ (h : Graph). used_below h.shape limit) a.added
    ∙ used_same (set_at node (Some (shape_of_row row)) g.shape) _ limit (λ m. by m (place a.dir _ (set_at node (Some (shape_of_row row)) g.shape) m) (place node (Some (shape_of_row row)) g.shape m))
    ∙ used_more g.shape node (shape_of_row row) limit a.free a.within
  where
    dir_used : (s : Shape) × (g.shape a.dir ≡ Some s)
    dir_used = reached_used g is a.above a.dir a.parent

    by : (m : ℕ) → Place (Option Shape) a.dir (Some (Dir (inserted_name a.name (names_of (set_at node (Some (shape_of_row row)) g.shape a.dir))))) (set_at node (Some (shape_of_row row)) g.shape) m → Place (Option Shape) node (Some (shape_of_row row)) g.shape m
        → is_there (set_at a.dir (Some (Dir (inserted_name a.name (names_of (set_at node (Some (shape_of_row row)) g.shape a.dir))))) (set_at node (Some (shape_of_row row)) g.shape) m) ≡ is_there (set_at node (Some (shape_of_row row)) g.shape m)
    by m (Here i j) (Here k l) = ap is_there j ∙ sym (ap is_there l)
    by m (Here i j) (Else k l) = ap is_there j ∙ sym (ap is_there (l ∙ ap g.shape i ∙ dir_used.1))
    by m (Else h j) _ = ap is_there j

-- and all that are have room
pub added_below : (limit : ℕ) (g after : Graph) (row : Row) (node a b : ℕ) → IsGraph g → IsAdded limit g after row node → AreBelow g a → a ≤ b → node < b → AreBelow after b
added_below limit g after row node a b is add below more here m s e = by m s (ap (λ (h : Graph). h.shape m) (sym add.added) ∙ e) (place add.dir _ (set_at node (Some (shape_of_row row)) g.shape) m) (place node (Some (shape_of_row row)) g.shape m)
  where
    dir_used : (s : Shape) × (g.shape add.dir ≡ Some s)
    dir_used = reached_used g is add.above add.dir add.parent

    by : (m : ℕ) (s : Shape) → set_at add.dir (Some (Dir (inserted_name add.name (names_of (set_at node (Some (shape_of_row row)) g.shape add.dir))))) (set_at node (Some (shape_of_row row)) g.shape) m ≡ Some s
        → Place (Option Shape) add.dir (Some (Dir (inserted_name add.name (names_of (set_at node (Some (shape_of_row row)) g.shape add.dir))))) (set_at node (Some (shape_of_row row)) g.shape) m → Place (Option Shape) node (Some (shape_of_row row)) g.shape m → m < b
    by m s e (Here i j) _ = let z : add.dir < a = below add.dir dir_used.0 dir_used.1 in omega (arith, z, i, more)
    by m s e (Else h j) (Here i l) = omega (arith, i, here)
    by m s e (Else h j) (Else i l) = let z : m < a = below m s (sym l ∙ sym j ∙ e) in omega (arith, z, more)

-- ---- the root alone

used_none : (limit : ℕ) → used_below (λ n. None) limit ≡ 0
used_none zero = refl
used_none (suc n) = used_none n

pub root_starts : (limit : ℕ) (limits : Limits) (t : Tree) (g : Graph) → 1 ≤ limit → t ≡ root_tree → g ≡ empty_graph → IsStart limit (record { limits = limits; tree = t }) g
root_starts limit limits t g least e f = rw (e, f) (starts_empty limits limit least)

pub root_count : (limit : ℕ) (g : Graph) → 1 ≤ limit → g ≡ empty_graph → used_below g.shape limit ≡ 1
root_count limit g least e = ap (λ (h : Graph). used_below h.shape limit) e ∙ used_more (λ n. None) 0 (Dir []) limit refl least ∙ ap (λ (n : ℕ). n + 1) (used_none limit)

pub root_below : (limits : Limits) (g : Graph) (room : ℕ) → g ≡ empty_graph → 1 ≤ room → AreBelow g room
root_below limits g room e more n s f = let z : n < 1 = (starts_empty limits 1 (omega arith)).below n s (ap (λ (h : Graph). h.shape n) (sym e) ∙ f) in omega (arith, z, more)
