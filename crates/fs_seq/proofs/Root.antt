-- The graph of the root alone.
use Rattle.std.proofs.Common.{◌≡◌, ◌≢◌, ℕ, zero, suc, Bool, true, false, [], ◌∷◌, Some, None, is_some, option_and_then, map, subst, List, refl, sym, ap, ◌∙◌, nat_eq}
use Rattle.std.specs.FinMap.{find, is_sorted}
use Rattle.fs_names.specs.Names.{Name, name_cmp}
use Rattle.fs_names.specs.Keys.{Key}
use Rattle.fs_calls.specs.Tree.{look, root_tree}
use Rattle.fs_seq_nodes.specs.code.Slots.{Dir, Slots, place_at, node_of, links_at, child, walk_from, walk, spelled, tree_of, IsForest, HasForm, HaveForm}
use Rattle.fs_seq_nodes.proofs.GraphLemmas.{is_tree_of}
use Rattle.fs_seq_nodes.proofs.Edits.{nat_same, nat_differ}
use Rattle.fs_seq_nodes.proofs.Resolving.{spelled_at, spelled_none}
use Rattle.slab.specs.Slab.{Slab, Updates}
use Rattle.fs_seq_nodes.specs.declared.nodes.Link.{Link}
use Rattle.fs_seq_nodes.specs.declared.nodes.Node.TheVariants as nodes
use Rattle.fs_seq_nodes.specs.code.Nodes.{graph, pairs, slot_place}
use Rattle.fs_seq_nodes.proofs.SlabLemmas.{sets_slot}
use Rattle.fs_seq_nodes.proofs.NodeLemmas.{child_got, links_got}

module _ (g : Slots) (root : place_at g 0 ≡ Some (Dir [])) (others : (j : ℕ) → j ≢ 0 → place_at g j ≡ None) where
  -- there are no links
  no_links : (j : ℕ) → links_at g j ≡ []
  no_links j =
      elim (nat_eq j 0) as (λ b. nat_eq j 0 ≡ b → links_at g j ≡ []) [
        | true ↦ λ e. ap (links_at g) (nat_same j 0 e) ∙ links_got g 0 _ root
        | false ↦ λ e. links_got g j _ (others j (nat_differ j 0 e))
      ] refl

  -- there are no children
  no_child : (j : ℕ) (y : Name) → child g j y ≡ None
  no_child j y = child_got g j y _ refl ∙ ap (find name_cmp y) (no_links j)

  -- only the root is reached
  only_root : (k : Key) (n : ℕ) → walk g k ≡ Some n → (k ≡ []) × (n ≡ 0)
  only_root [] n w = (refl, let e : 0 ≡ n = cc in sym e)
  only_root (x ∷ k) n w = absurd (let none : walk g (x ∷ k) ≡ None = ap (option_and_then (λ m. walk_from g m k)) (no_child 0 x) in cc)

  -- the graph is a forest
  pub forest_root : IsForest g
  forest_root = record {
    once = λ a b n u v. (only_root a n u).0 ∙ sym (only_root b n v).0;
    inside = λ k n w. ap (λ j. is_some (place_at g j)) (only_root k n w).1 ∙ ap is_some root;
    root = ap node_of root;
    rising = λ j. ap (is_sorted name_cmp) (no_links j);
  }

  -- there are no files
  pub form_root : (in_blocks : Bool) → HaveForm in_blocks g
  form_root in_blocks = record { each = λ j. at j }
    where
      at : (j : ℕ) → HasForm in_blocks (place_at g j)
      at j = elim (nat_eq j 0) as (λ b. nat_eq j 0 ≡ b → HasForm in_blocks (place_at g j)) [
        | true ↦ λ e. subst (HasForm in_blocks) (sym (ap (place_at g) (nat_same j 0 e) ∙ root)) tt
        | false ↦ λ e. subst (HasForm in_blocks) (sym (others j (nat_differ j 0 e))) tt
      ] refl

  -- it spells the root alone
  look_root : (k : Key) → look root_tree k ≡ spelled g k
  unfolding look
  look_root [] = sym (spelled_at g [] 0 refl ∙ ap node_of root)
  look_root (x ∷ k) = sym (spelled_none g (x ∷ k) (ap (option_and_then (λ m. walk_from g m k)) (no_child 0 x)))

  -- its tree is that of the root alone
  pub tree_root : tree_of g ≡ root_tree
  tree_root = is_tree_of g root_tree forest_root tt look_root

-- an empty graph has no place
nothing_at : (n : ℕ) → place_at [] n ≡ None
unfolding place_at
nothing_at zero = refl
nothing_at (suc n) = refl

-- the first node of a slab that was empty
pub first_node : (s t : Slab nodes.the_data) (key : ℕ) (links : List Link) → s.slots ≡ [] → s.vacant_key ≡ 0 → key ≡ s.vacant_key → Updates s t key (Some (nodes.Dir links)) → links ≡ []
    → (place_at (graph t) 0 ≡ Some (Dir [])) × ((j : ℕ) → j ≢ 0 → place_at (graph t) j ≡ None)
first_node s t key links empty first is updates none =
    let at : key ≡ 0 = is ∙ first in
    let sets = sets_slot s t 0 (Some (nodes.Dir links)) (subst (λ k. Updates s t k (Some (nodes.Dir links))) at updates) in (
      sets.here ∙ ap (λ ls. Some (Dir (pairs ls))) none,
      λ j ne. sets.elsewhere j ne ∙ ap (λ slots. place_at (map slot_place slots) j) empty ∙ nothing_at j,
    )
