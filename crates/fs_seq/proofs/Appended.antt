-- A row behind those before it, in the tree that a graph spells.
use Rattle.std.proofs.Common.{◌≡◌, ℕ, Bool, true, false, cond, ◌&&◌, not, List, [], ◌∷◌, ◌++◌, length, slice_get, Some, None, Option, is_some, refl, sym, ap, subst, ◌∙◌, arith, nat_eq, T, Ordering, Less, Equal, Greater}
use Rattle.std.specs.Prelude.{nat_le}
use Rattle.std.specs.List.{AllByRecursion}
use Rattle.std.specs.Ordering.{is_eq, is_lt, ordering_index, ordering_reverse}
use Rattle.std.specs.FinMap.{find, put, is_sorted}
use Rattle.std.specs.FinMap.Entries.{by_order}
use Rattle.std.proofs.lemmas.List.{length-map}
use Rattle.fs_blocks.specs.Files.{FileValue}
use Rattle.fs_names.specs.Limits.{entry_limit}
use Rattle.fs_names.specs.Names.{Name, name_cmp}
use Rattle.fs_names.specs.Keys.{Key, key_cmp, parent_of}
use Rattle.fs_names.proofs.Lemmas.{key_total}
use Rattle.fs_names.specs.declared.limits.Limits.{Limits}
use Rattle.fs_calls.specs.Tree.{Node, Tree, look, inserted}
use Rattle.fs_calls.specs.Sights.{tree_shapes, is_dir, is_full}
use Rattle.fs_seq.specs.declared.rows.Row.{Row}
use Rattle.fs_seq_nodes.specs.declared.nodes.Node.TheVariants as nodes
use Rattle.fs_seq.specs.Rows.{key_of, may_have, node_of_kind, row_of, last_key, fits}
use Rattle.fs_calls.proofs.KeyLemmas.{parent_of-snoc}
use Rattle.fs_seq_nodes.specs.code.Slots.{Slots, Place, Dir, File, place_at, links_at, child, walk, links_of, shape_of, tree_of, IsForest, Sets, Attaches}
use Rattle.fs_seq_nodes.specs.code.Nodes.{place, tree_node, number_of, name_of, IsNameAt, BelongsAt}
use Rattle.fs_seq.specs.code.Added.{IsPlaceOf}
use Rattle.fs_seq_nodes.proofs.GraphMade.{forest_made, tree_made}
use Rattle.fs_seq_nodes.proofs.GraphLemmas.{sorted-tree_of}
use Rattle.fs_seq_nodes.proofs.NodeLemmas.{node_place, links_got}
use Rattle.fs_seq_nodes.proofs.Resolving.{walk_on, look_some, seen_at, seen_none}
use Rattle.fs_seq_nodes.proofs.SearchLemmas.{both_first, both_second, is_less}

-- ---- a key above all others

-- each key of a tree is below this one
abbrev pub AllBelow : Tree → Key → Type 0
AllBelow t k = AllByRecursion (λ (e : Key × Node). key_cmp e.0 k ≡ Less) t

-- what is above the last key is above all
pub all_below : (t : Tree) (k : Key) → T (is_sorted key_cmp t) → key_cmp (last_key t) k ≡ Less → AllBelow t k
all_below [] k sorted h = tt
all_below (e ∷ []) k sorted h = (h, tt)
all_below (e ∷ f ∷ t) k sorted h =
    let rest = all_below (f ∷ t) k (both_second _ _ sorted) h in
    (key_total.trans e.0 f.0 k (is_less _ (both_first _ _ (both_first _ _ sorted))) rest.0, rest)

-- the order of two keys the other way round
pub above : (a k : Key) → key_cmp a k ≡ Less → key_cmp k a ≡ Greater
above a k h = key_total.antisymm k a ∙ ap ordering_reverse h

-- nothing stands at it
pub look-above : (t : Tree) (k : Key) → AllBelow t k → look t k ≡ None
unfolding look
look-above [] k all = refl
look-above (e ∷ t) k all = ap (λ b. cond {A = Option Node} b (Some e.1) (find key_cmp k t)) (ap is_eq (above e.0 k all.0)) ∙ look-above t k all.1

-- it is inserted behind them
pub inserted-last : (t : Tree) (k : Key) (n : Node) → AllBelow t k → inserted t k n ≡ t ++ (k, n) ∷ []
unfolding inserted
inserted-last [] k n all = refl
inserted-last (e ∷ t) k n all =
    ap (λ (o : Ordering). by_order o ((k, n) ∷ e ∷ t) ((e.0, n) ∷ t) (e ∷ put key_cmp k n t)) (above e.0 k all.0) ∙ ap (λ (z : Tree). e ∷ z) (inserted-last t k n all.1)

-- no key is below that of the root
pub not_below_root : (a k : Key) → length k ≡ 0 → is_lt (key_cmp a k) ≡ false
not_below_root [] [] e = refl
not_below_root (x ∷ a) [] e = refl
not_below_root a (x ∷ k) e = absurd (omega arith)

-- ---- whether a row fits

-- the second of two tests fails
second_fails : (a b : Bool) → b ≡ false → (a && b) ≡ false
second_fails true b e = e
second_fails false b e = refl

-- the first of two tests fails
first_fails : (a b : Bool) → a ≡ false → (a && b) ≡ false
first_fails true b e = absurd (cc)
first_fails false b e = refl

-- two tests hold
pub both_hold : (a b : Bool) → a ≡ true → b ≡ true → (a && b) ≡ true
both_hold true b e f = f
both_hold false b e f = absurd (cc)

-- a name that stands leads to a number
number_by : (o : Option (Name × ℕ)) (x : Name) → name_of o ≡ Some x → (m : ℕ) × (number_of o ≡ Some m)
number_by None x e = absurd (cc)
number_by (Some l) x e = (l.1, refl)

pub stands_to : (links : List (Name × ℕ)) (x : Name) (i : ℕ) → IsNameAt links x i → (m : ℕ) × (find name_cmp x links ≡ Some m)
stands_to links x i at = let to = number_by (slice_get links i) x at.named in (to.0, at.found ∙ to.1)

-- an order by its number
pub less_by_index : (o : Ordering) (b : Bool) → b ≡ not (nat_eq (ordering_index o) 0) → b ≡ false → o ≡ Less
less_by_index Less b e f = refl
less_by_index Equal b e f = absurd (cc)
less_by_index Greater b e f = absurd (cc)

module _ (limits : Limits) (g : Slots) (forest : IsForest g) (row : Row) where
  -- a row without names
  pub fails_at_root : length (key_of row) ≡ 0 → fits limits (tree_of g) row ≡ false
  fails_at_root none = first_fails _ _ (first_fails _ _ (first_fails _ _ (not_below_root (last_key (tree_of g)) (key_of row) none)))

  -- a row in a directory
  module _ (d : Key) (x : Name) (split : key_of row ≡ d ++ x ∷ []) where
    parent_is : parent_of (key_of row) ≡ d
    parent_is = ap parent_of split ∙ parent_of-snoc d x

    -- a row without a parent
    pub fails_lost : walk g d ≡ None → fits limits (tree_of g) row ≡ false
    fails_lost lost = first_fails _ _ (first_fails _ _ (second_fails _ _ (ap is_dir (ap (tree_shapes (tree_of g)) parent_is ∙ seen_none g d forest lost))))

    module _ (dir : ℕ) (w : walk g d ≡ Some dir) where
      -- what is seen of the parent
      seen_parent : (at : Place) → place_at g dir ≡ Some at → tree_shapes (tree_of g) (parent_of (key_of row)) ≡ shape_of (Some at)
      seen_parent at e = ap (tree_shapes (tree_of g)) parent_is ∙ seen_at g d dir forest w ∙ ap shape_of e

      -- a row in a file
      pub fails_in_file : (file : FileValue) → place_at g dir ≡ Some (File file) → fits limits (tree_of g) row ≡ false
      fails_in_file file e = first_fails _ _ (first_fails _ _ (second_fails _ _ (ap is_dir (seen_parent (File file) e))))

      -- whether the parent is full
      full_by : (links : List (Name × ℕ)) → place_at g dir ≡ Some (Dir links) → is_full (entry_limit limits) (tree_shapes (tree_of g) (parent_of (key_of row))) ≡ nat_le (entry_limit limits) (length links)
      full_by links e = ap (is_full (entry_limit limits)) (seen_parent (Dir links) e) ∙ ap (nat_le (entry_limit limits)) (length-map links (λ (l : Name × ℕ). l.0))

      -- a row in a full directory
      pub fails_full : (links : List (Name × ℕ)) → place_at g dir ≡ Some (Dir links) → nat_le (entry_limit limits) (length links) ≡ true → fits limits (tree_of g) row ≡ false
      fails_full links e full = first_fails _ _ (second_fails _ _ (ap not (full_by links e ∙ full)))

      -- a name in order is not there yet
      pub not_there : (m : ℕ) → key_cmp (last_key (tree_of g)) (key_of row) ≡ Less → child g dir x ≡ Some m → ⊥
      not_there m less there =
          let k = key_of row in
          let to : walk g k ≡ Some m = ap (walk g) split ∙ walk_on g d dir x m w there in
          let some : is_some (look (tree_of g) k) ≡ true = look_some g k m forest to in
          let none : look (tree_of g) k ≡ None = look-above (tree_of g) k (all_below (tree_of g) k (sorted-tree_of g) less) in
          let wrong : false ≡ true = ap is_some (sym none) ∙ some in cc

      -- a row that fits
      pub is_place : (links : List (Name × ℕ)) (i : ℕ) → key_cmp (last_key (tree_of g)) (key_of row) ≡ Less → place_at g dir ≡ Some (Dir links) → nat_le (entry_limit limits) (length links) ≡ false → may_have limits row.kind row.bytes.items ≡ true → BelongsAt links x i
          → IsPlaceOf limits g row dir i x
      is_place links i less e room may belongs =
          let same : links ≡ links_at g dir = sym (links_got g dir _ e) in
          record {
            fits =
                both_hold _ _
                (both_hold _ _ (both_hold _ _ (ap is_lt less) (ap is_dir (seen_parent (Dir links) e))) (ap not (full_by links e ∙ room)))
                may;
            above = d;
            split = split;
            parent = w;
            directory = e ∙ ap (λ ls. Some (Dir ls)) same;
            belongs = subst (λ ls. BelongsAt ls x i) same belongs;
          }

-- ---- a row that was added

-- the first of two tests holds
pub first_holds : (a b : Bool) → (a && b) ≡ true → a ≡ true
first_holds true b e = refl
first_holds false b e = e

-- the second of two tests holds
pub second_holds : (a b : Bool) → (a && b) ≡ true → b ≡ true
second_holds true b e = e
second_holds false b e = absurd (cc)

-- what is less by a test
less_if : (o : Ordering) → is_lt o ≡ true → o ≡ Less
less_if Less e = refl
less_if Equal e = absurd (cc)
less_if Greater e = absurd (cc)

-- a row that fits comes behind the last key
pub in_order : (limits : Limits) (t : Tree) (row : Row) → fits limits t row ≡ true → key_cmp (last_key t) (key_of row) ≡ Less
in_order limits t row h = less_if _ (first_holds _ _ (first_holds _ _ (first_holds _ _ h)))

module _ (limits : Limits) (g g' : Slots) (forest : IsForest g) (row : Row) (dir i : ℕ) (x : Name) (node : nodes.the_data) (bare : links_of (Some (place node)) ≡ []) (at : IsPlaceOf limits g row dir i x) (new : Attaches g g' dir i x (place node)) where
  linking : Sets g new.between dir (Some (Dir (put name_cmp x new.number (links_at g dir))))
  linking = subst (λ ls. Sets g new.between dir (Some (Dir ls))) (sym (at.belongs.placed new.number)) new.linking

  -- the graph is a forest
  pub forest_added : IsForest g'
  forest_added = forest_made g new.between g' forest (place node) bare at.above dir at.parent (links_at g dir) at.directory x at.belongs.absent new.number new.free linking new.adding

  -- its tree has the row as its last
  pub tree_added : tree_node node ≡ node_of_kind row.kind row.bytes.items → tree_of g' ≡ tree_of g ++ row_of row ∷ []
  tree_added is =
      let k = key_of row in
      tree_made g new.between g' forest (place node) bare at.above dir at.parent (links_at g dir) at.directory x at.belongs.absent new.number new.free linking new.adding (tree_node node) (node_place node)
      ∙ ap (λ (key : Key). inserted (tree_of g) key (tree_node node)) (sym at.split)
      ∙ inserted-last (tree_of g) k (tree_node node) (all_below (tree_of g) k (sorted-tree_of g) (in_order limits (tree_of g) row at.fits))
      ∙ ap (λ (n : Node). tree_of g ++ (k, n) ∷ []) is
