-- A file whose bytes are written.
use Rattle.std.proofs.Common.{◌≡◌, ◌≢◌, ℕ, Bool, true, false, cond, [], ◌∷◌, Some, None, Option, is_some, option_and_then, refl, sym, ap, subst, ◌∙◌, nat_eq, IsTrue}
use Rattle.std.specs.FinMap.{is_sorted}
use Rattle.fs_blocks.specs.Files.{FileValue}
use Rattle.fs_names.specs.Names.{Name, name_cmp}
use Rattle.fs_names.specs.Keys.{Key, same_key}
use Rattle.fs_calls.specs.Tree.{Node, Tree, look, inserted}
use Rattle.fs_calls.specs.Tree as tree
use Rattle.fs_seq_nodes.specs.code.Slots.{File, Slots, place_at, links_of, node_of, links_at, child, walk_from, walk, node_at, spelled, tree_of, IsForest, Sets}
use Rattle.fs_calls.proofs.LookLemmas.{same_key_exact, same_key_refl, look-inserted, sorted-inserted}
use Rattle.fs_seq_nodes.proofs.GraphLemmas.{look-tree_of, sorted-tree_of, is_tree_of}
use Rattle.fs_seq_nodes.proofs.Edits.{nat_same, nat_differ}
use Rattle.fs_seq_nodes.proofs.Resolving.{spelled_at, spelled_none}
use Rattle.fs_seq_nodes.proofs.NodeLemmas.{child_got}

-- where all steps are the same, so are all walks
pub walk-same : (g g' : Slots) → ((j : ℕ) (y : Name) → child g' j y ≡ child g j y) → (n : ℕ) (k : Key) → walk_from g' n k ≡ walk_from g n k
walk-same g g' same n [] = refl
walk-same g g' same n (x ∷ k) =
    ap (option_and_then (λ m. walk_from g' m k)) (same n x)
    ∙ elim (child g n x) as (λ o. option_and_then (λ m. walk_from g' m k) o ≡ option_and_then (λ m. walk_from g m k) o) [ None ↦ refl | Some m ↦ walk-same g g' same m k ]

-- what cannot be true is false
never : (b : Bool) → (b ≡ true → ⊥) → b ≡ false
never true h = absurd (h refl)
never false h = refl

module _ (g g' : Slots) (forest : IsForest g) (p : Key) (n : ℕ) (walked : walk g p ≡ Some n) (old new : FileValue) (file : place_at g n ≡ Some (File old)) (filling : Sets g g' n (Some (File new))) where
  -- all children stay
  same_child : (j : ℕ) (y : Name) → child g' j y ≡ child g j y
  same_child j y =
      elim (nat_eq j n) as (λ b. nat_eq j n ≡ b → child g' j y ≡ child g j y) [
        | true ↦ λ e. let at : j ≡ n = nat_same j n e in ap (λ i. child g' i y) at ∙ child_got g' n y _ filling.here ∙ sym (ap (λ i. child g i y) at ∙ child_got g n y _ file)
        | false ↦ λ e. child_got g' j y _ (filling.elsewhere j (nat_differ j n e)) ∙ sym (child_got g j y _ refl)
      ] refl

  -- all walks stay
  walk-filled : (k : Key) → walk g' k ≡ walk g k
  walk-filled k = walk-same g g' same_child 0 k

  -- a number with a place keeps one
  place_filled : (j : ℕ) → is_some (place_at g j) ≡ true → is_some (place_at g' j) ≡ true
  place_filled j h =
      elim (nat_eq j n) as (λ b. nat_eq j n ≡ b → is_some (place_at g' j) ≡ true) [
        | true ↦ λ e. ap (λ i. is_some (place_at g' i)) (nat_same j n e) ∙ ap is_some filling.here
        | false ↦ λ e. ap is_some (filling.elsewhere j (nat_differ j n e)) ∙ h
      ] refl

  -- the names of each directory rise
  rising_filled : (j : ℕ) → IsTrue (is_sorted name_cmp (links_at g' j))
  rising_filled j =
      elim (nat_eq j n) as (λ b. nat_eq j n ≡ b → IsTrue (is_sorted name_cmp (links_at g' j))) [
        | true ↦ λ e. ap (λ i. is_sorted name_cmp (links_at g' i)) (nat_same j n e) ∙ ap (λ o. is_sorted name_cmp (links_of o)) filling.here
        | false ↦ λ e. subst (λ o. IsTrue (is_sorted name_cmp (links_of o))) (sym (filling.elsewhere j (nat_differ j n e))) (forest.rising j)
      ] refl

  -- the root is no file
  not_root : 0 ≢ n
  not_root e = let wrong : Some tree.Dir ≡ Some (tree.File old.bytes) = sym forest.root ∙ ap (node_at g) e ∙ ap node_of file in cc

  -- the graph is a forest again
  pub forest_filled : IsForest g'
  forest_filled = record {
    once = λ a b j u v. forest.once a b j (sym (walk-filled a) ∙ u) (sym (walk-filled b) ∙ v);
    inside = λ k j w. place_filled j (forest.inside k j (sym (walk-filled k) ∙ w));
    root = ap node_of (filling.elsewhere 0 not_root) ∙ forest.root;
    rising = rising_filled;
  }

  -- a key that leads where it led spells what it spelled
  same_spelled : (k : Key) → (k ≡ p → ⊥) → (o : Option ℕ) → walk g k ≡ o → spelled g k ≡ spelled g' k
  same_spelled k ne None w = spelled_none g k w ∙ sym (spelled_none g' k (walk-filled k ∙ w))
  same_spelled k ne (Some j) w =
      spelled_at g k j w
      ∙ sym (spelled_at g' k j (walk-filled k ∙ w) ∙ ap node_of (filling.elsewhere j (λ e. ne (forest.once k p n (w ∙ ap (λ z. Some z) e) walked))))

  -- what the new tree has at each key
  look_filled : (k : Key) (b : Bool) → same_key k p ≡ b → look (inserted (tree_of g) p (tree.File new.bytes)) k ≡ spelled g' k
  look_filled k true same =
      look-inserted (tree_of g) p (tree.File new.bytes) k ∙ ap (λ b. cond {A = Option Node} b (Some (tree.File new.bytes)) (look (tree_of g) k)) same
      ∙ sym (spelled_at g' k n (walk-filled k ∙ ap (walk g) (same_key_exact k p same) ∙ walked) ∙ ap node_of filling.here)
  look_filled k false other =
      look-inserted (tree_of g) p (tree.File new.bytes) k ∙ ap (λ b. cond {A = Option Node} b (Some (tree.File new.bytes)) (look (tree_of g) k)) other
      ∙ look-tree_of g forest k ∙ same_spelled k (λ e. let wrong : true ≡ false = sym (ap (λ z. same_key z p) e ∙ same_key_refl p) ∙ other in cc) (walk g k) refl

  -- the new tree
  pub tree_filled : tree_of g' ≡ inserted (tree_of g) p (tree.File new.bytes)
  tree_filled = is_tree_of g' (inserted (tree_of g) p (tree.File new.bytes)) forest_filled (sorted-inserted (tree_of g) p (tree.File new.bytes) (sorted-tree_of g)) (λ k. look_filled k (same_key k p) refl)
