-- What a call sees of a path whose last name was looked up, and the errors that follow.
use Rattle.std.proofs.Common.{◌≡◌, ℕ, Ok, ◌<◌, Bool, true, false, [], ◌∷◌, length, Some, None, Option, is_some, refl, sym, ap, ◌∙◌, arith}
use Rattle.std.specs.Prelude.{nat_le, IfSome}
use Rattle.std.proofs.lemmas.List.{length-map}
use Rattle.fs_names.specs.Limits.{entry_limit}
use Rattle.fs_names.specs.Names.{Name}
use Rattle.fs_names.specs.declared.limits.Limits.{Limits}
use Rattle.fs_names.specs.Keys.{Key, is_root, parent_of, last_of}
use Rattle.fs_names.specs.Failures.{check, or_else, first_failure}
use Rattle.fs_calls.specs.Forms.{Mkdir}
use Rattle.fs_names.proofs.LimitLemmas.{empty_has_room}
use Rattle.fs_calls.specs.Rows.{entry_errors}
use Rattle.fs_calls.specs.declared.errno.Errno.{Errno}
use Rattle.fs_calls.specs.declared.errno.Errno.TheVariants.{Eexist, Enospc}
use Rattle.fs_calls.specs.Tree.{Tree}
use Rattle.fs_calls.specs.Sights.{Shape, tree_shapes, is_there, is_full}
use Rattle.fs_calls.specs.Outcomes.{parents_resolution}
use Rattle.slab.specs.Slab.{Slab, ContainsKey}
use Rattle.fs_seq_nodes.specs.declared.nodes.Node.{Node}
use Rattle.fs_seq_nodes.specs.declared.nodes.Spot.{Spot}
use Rattle.fs_seq_nodes.specs.declared.nodes.Spot.TheVariants.{Taken, Free}
use Rattle.fs_seq_nodes.specs.code.Slots.{Place, Dir, File, Slots, links_at, walk, tree_of, shape_of, shape_at, IsForest}
use Rattle.fs_seq_nodes.specs.code.Nodes.{graph, IsTaken, IsFree, LooksUp, number_there, shape_there, place_there, full_there}
use Rattle.fs_seq.specs.code.Effects.{making_fault, IsGap}
use Rattle.fs_seq_nodes.proofs.Resolving.{walk_on, walk_off, seen_at, seen_none}
use Rattle.fs_seq_nodes.proofs.NodeLemmas.{parent_and_last, child_got, has_key}
use Rattle.fs_seq_nodes.proofs.Parents.{parents_found}

-- a path with a name is not the root
pub not_root : (p : Key) → 0 < length p → is_root p ≡ false
not_root [] h = absurd (omega arith)
not_root (x ∷ p) h = refl

-- a path that is not the root has a name
pub has_names : (p : Key) → is_root p ≡ false → 0 < length p
has_names [] e = absurd (cc)
has_names (x ∷ p) e = omega arith

-- a path without names is the root
pub root : (p : Key) → length p ≡ 0 → is_root p ≡ true
root [] e = refl
root (x ∷ p) e = absurd (omega arith)

module _ (g : Slots) (forest : IsForest g) (p : Key) (named : 0 < length p) (dir i : ℕ) where
  -- a name that was found: the parent is well, and the path leads to the node
  pub taken_parents : (n : ℕ) → IsTaken g p dir i n → parents_resolution (tree_of g) p ≡ None
  taken_parents n spot = parents_found g p dir _ forest spot.parent spot.directory

  -- the path leads to the node
  pub taken_walk : (n : ℕ) → IsTaken g p dir i n → walk g p ≡ Some n
  taken_walk n spot = ap (walk g) (parent_and_last p named) ∙ walk_on g (parent_of p) dir (last_of p) n spot.parent spot.leads

  -- what is seen at the path
  pub taken_seen : (n : ℕ) → IsTaken g p dir i n → tree_shapes (tree_of g) p ≡ shape_at g n
  taken_seen n spot = seen_at g p n forest (taken_walk n spot)

  -- a name that was not: the parent is well, and nothing is at the path
  pub free_parents : (entries : ℕ) → IsFree g p dir i entries → parents_resolution (tree_of g) p ≡ None
  free_parents entries spot = parents_found g p dir _ forest spot.parent spot.directory

  -- nothing is seen at the path
  pub free_seen : (entries : ℕ) → IsFree g p dir i entries → tree_shapes (tree_of g) p ≡ None
  free_seen entries spot =
      seen_none g p forest (ap (walk g) (parent_and_last p named) ∙ walk_off g (parent_of p) dir (last_of p) spot.parent (child_got g dir (last_of p) _ spot.directory ∙ spot.belongs.absent))

  -- what is seen at the parent
  pub free_dir : (entries : ℕ) → IsFree g p dir i entries → tree_shapes (tree_of g) (parent_of p) ≡ shape_at g dir
  free_dir entries spot = seen_at g (parent_of p) dir forest spot.parent

-- a name that was looked up has a directory as its parent
pub spot_parents : (g : Slots) → IsForest g → (p : Key) → 0 < length p → (spot : Spot) → LooksUp g p (Ok spot) → parents_resolution (tree_of g) p ≡ None
spot_parents g forest p named (Taken dir i n) at = taken_parents g forest p named dir i n at
spot_parents g forest p named (Free dir i entries) at = free_parents g forest p named dir i entries at

-- what is seen at its path is what is seen where it was looked up
pub spot_seen : (g : Slots) → IsForest g → (p : Key) → 0 < length p → (spot : Spot) → LooksUp g p (Ok spot) → tree_shapes (tree_of g) p ≡ shape_there g spot
spot_seen g forest p named (Taken dir i n) at = taken_seen g forest p named dir i n at
spot_seen g forest p named (Free dir i entries) at = free_seen g forest p named dir i entries at

-- a number that stands there has a node
pub spot_kept : (s : Slab Node) → IsForest (graph s) → (p : Key) → 0 < length p → (spot : Spot) → LooksUp (graph s) p (Ok spot) → IfSome (number_there spot) (ContainsKey s)
spot_kept s forest p named (Taken dir i n) at = has_key s n (forest.inside p n (taken_walk (graph s) forest p named dir i n at))
spot_kept s forest p named (Free dir i entries) at = tt

-- ---- the errors of the calls that make a node

-- the errors of making a node by what is seen
abbrev making_by : Bool → Option Errno → Bool → Bool → Option Errno
making_by root lost there full = or_else (check root Eexist) (or_else lost (or_else (check there Eexist) (or_else (check full Enospc) None)))

-- a shape sees whether it is the root, the parent's error, whether something is there and whether the parent is full
making_shape : (limits : Limits) (t : Tree) (p : Key) → making_fault limits t p ≡ making_by (is_root p) (parents_resolution t p) (is_there (tree_shapes t p)) (is_full (entry_limit limits) (tree_shapes t (parent_of p)))
unfolding making_fault
making_shape limits t p = refl

-- the error at the root
pub making_root : (limits : Limits) (t : Tree) (p : Key) → length p ≡ 0 → making_fault limits t p ≡ Some Eexist
making_root limits t p e = making_shape limits t p ∙ ap (λ b. making_by b (parents_resolution t p) (is_there (tree_shapes t p)) (is_full (entry_limit limits) (tree_shapes t (parent_of p)))) (root p e)

-- the error of the parent
pub making_lost : (limits : Limits) (t : Tree) (p : Key) (e : Errno) → 0 < length p → parents_resolution t p ≡ Some e → making_fault limits t p ≡ Some e
making_lost limits t p e named lost = making_shape limits t p ∙ (λ i. making_by (not_root p named i) (lost i) (is_there (tree_shapes t p)) (is_full (entry_limit limits) (tree_shapes t (parent_of p))))

-- what is seen is there
there_is : (o : Option Shape) → is_some o ≡ true → is_there o ≡ true
there_is None e = e
there_is (Some s) e = refl

-- a place has a shape
some_shape : (o : Option Place) → is_some o ≡ true → is_some (shape_of o) ≡ true
some_shape None e = e
some_shape (Some (Dir links)) e = refl
some_shape (Some (File file)) e = refl

-- the error of a name that is there
pub making_taken : (limits : Limits) (g : Slots) (p : Key) (dir i n : ℕ) → IsForest g → 0 < length p → IsTaken g p dir i n → making_fault limits (tree_of g) p ≡ Some Eexist
making_taken limits g p dir i n forest named spot =
    let there : is_there (tree_shapes (tree_of g) p) ≡ true = there_is _ (ap is_some (taken_seen g forest p named dir i n spot) ∙ some_shape _ (forest.inside p n (taken_walk g forest p named dir i n spot))) in
    making_shape limits (tree_of g) p ∙ (λ j. making_by (not_root p named j) (taken_parents g forest p named dir i n spot j) (there j) (is_full (entry_limit limits) (tree_shapes (tree_of g) (parent_of p))))

-- the error of a name that is not there
pub making_free : (limits : Limits) (g : Slots) (p : Key) (dir i entries : ℕ) → IsForest g → 0 < length p → IsFree g p dir i entries → making_fault limits (tree_of g) p ≡ first_failure (entry_errors (Mkdir (entry_limit limits)) (shape_at g dir) None)
making_free limits g p dir i entries forest named spot =
    making_shape limits (tree_of g) p
    ∙ (λ j. making_by (not_root p named j) (free_parents g forest p named dir i entries spot j) (is_there (free_seen g forest p named dir i entries spot j)) (is_full (entry_limit limits) (free_dir g forest p named dir i entries spot j)))

-- a name that can be made
pub is_gap : (limits : Limits) (g : Slots) (p : Key) (dir i entries : ℕ) → 0 < length p → IsFree g p dir i entries → making_fault limits (tree_of g) p ≡ None → IsGap limits g p dir i
is_gap limits g p dir i entries named spot sound = record {
  sound = sound;
  named = named;
  parent = spot.parent;
  directory = spot.directory;
  belongs = spot.belongs;
}

-- the directory of a name that is not there; one that is there does not ask whether it is full
abbrev pub dir_there : Slots → Spot → Option Shape
dir_there g (Taken dir i n) = None
dir_there g (Free dir i entries) = shape_at g dir

-- it is full as the code finds it
pub full_is : (limits : Limits) (g : Slots) (p : Key) (spot : Spot) → LooksUp g p (Ok spot) → full_there (entry_limit limits) spot ≡ is_full (entry_limit limits) (dir_there g spot)
full_is limits g p (Taken dir i n) at = sym (empty_has_room limits)
full_is limits g p (Free dir i entries) at = ap (nat_le (entry_limit limits)) (at.count ∙ sym (length-map (links_at g dir) (λ (l : Name × ℕ). l.0))) ∙ sym (ap (λ o. is_full (entry_limit limits) (shape_of o)) at.directory)

-- the errors of making a node, by what was looked up
pub making_spot : (limits : Limits) (g : Slots) (p : Key) (spot : Spot) → IsForest g → 0 < length p → LooksUp g p (Ok spot) → making_fault limits (tree_of g) p ≡ first_failure (entry_errors (Mkdir (entry_limit limits)) (dir_there g spot) (shape_there g spot))
making_spot limits g p (Taken dir i n) forest named at =
    let there : is_there (shape_at g n) ≡ true = there_is _ (some_shape _ (forest.inside p n (taken_walk g forest p named dir i n at))) in
    making_taken limits g p dir i n forest named at ∙ sym (ap (λ b. or_else (check b Eexist) (or_else (check (is_full (entry_limit limits) None) Enospc) None)) there)
making_spot limits g p (Free dir i entries) forest named at = making_free limits g p dir i entries forest named at

-- the place of a name that can be made
pub gap_there : (limits : Limits) (g : Slots) (p : Key) (spot : Spot) → IsForest g → 0 < length p → LooksUp g p (Ok spot) → making_fault limits (tree_of g) p ≡ None → IsGap limits g p (place_there spot).0 (place_there spot).1
gap_there limits g p (Taken dir i n) forest named at sound = let both : None ≡ Some Eexist = sym sound ∙ making_taken limits g p dir i n forest named at in absurd (cc)
gap_there limits g p (Free dir i entries) forest named at sound = is_gap limits g p dir i entries named at sound
