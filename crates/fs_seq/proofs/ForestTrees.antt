-- The tree that a forest spells is a tree.
use Rattle.std.proofs.Common.{◌≡◌, ℕ, [], ◌∷◌, ◌++◌, Some, None, Option, refl, sym, ap, ◌∙◌, Bool, true, false, T}
use Rattle.fs_names.specs.Names.{Name}
use Rattle.fs_names.specs.Keys.{Key}
use Rattle.fs_calls.specs.Tree.{Node, Dir as IsDir, IsTree}
use Rattle.fs_seq_nodes.specs.code.Slots.{Place, Dir, File, Slots, place_at, node_of, child, walk, spelled, tree_of, IsForest}
use Rattle.fs_seq_nodes.proofs.GraphLemmas.{look-tree_of, sorted-tree_of}
use Rattle.fs_seq_nodes.proofs.Resolving.{spelled_at, spelled_none, walk_off}
use Rattle.fs_seq_nodes.proofs.Edits.{walk-snoc, on_from, on_none}
use Rattle.fs_seq.proofs.Rewiring.{child_of}

-- what holds is true
true_from_T : (b : Bool) → T b → b ≡ true
true_from_T true h = refl
true_from_T false h = absurd h

-- what has a child is a directory
parent_is_dir : (g : Slots) (n : ℕ) (x : Name) (m : ℕ) (o : Option Place) → place_at g n ≡ o → child g n x ≡ Some m → node_of o ≡ Some IsDir
parent_is_dir g n x m None e h = let none = child_of g n x None e in absurd (cc)
parent_is_dir g n x m (Some (Dir links)) e h = refl
parent_is_dir g n x m (Some (File file)) e h = let none = child_of g n x (Some (File file)) e in absurd (cc)

-- what stands above a key, by the child that leads to it
by_child : (g : Slots) (d : Key) (x : Name) (node : Node) (n : ℕ) (o : Option ℕ) → walk g d ≡ Some n → child g n x ≡ o → spelled g (d ++ x ∷ []) ≡ Some node → spelled g d ≡ Some IsDir
by_child g d x node n None w e h = let none = spelled_none g (d ++ x ∷ []) (walk_off g d n x w e) in absurd (cc)
by_child g d x node n (Some m) w e h = spelled_at g d n w ∙ parent_is_dir g n x m (place_at g n) refl e

-- and by the number to which the key above leads
by_walk : (g : Slots) (d : Key) (x : Name) (node : Node) (o : Option ℕ) → walk g d ≡ o → spelled g (d ++ x ∷ []) ≡ Some node → spelled g d ≡ Some IsDir
by_walk g d x node None w h = let none = spelled_none g (d ++ x ∷ []) (walk-snoc g 0 d x ∙ ap (on_from g x) w ∙ on_none g x) in absurd (cc)
by_walk g d x node (Some n) w h = by_child g d x node n (child g n x) w refl h

-- the tree that a forest spells is a tree
pub forest_tree : (g : Slots) → IsForest g → IsTree (tree_of g)
forest_tree g forest = record {
  sorted = true_from_T _ (sorted-tree_of g);
  root = look-tree_of g forest [] ∙ spelled_at g [] 0 refl ∙ forest.root;
  inside = λ d x node h. look-tree_of g forest d ∙ by_walk g d x node (walk g d) refl (sym (look-tree_of g forest (d ++ x ∷ [])) ∙ h);
}
