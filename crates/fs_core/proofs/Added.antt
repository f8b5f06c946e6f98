-- A node that comes in behind those of the rows before.
use Rattle.std.proofs.Common.{◌≡◌, ℕ, refl, true, false, List, [], ◌∷◌, Option, Some, None, IsTrue, sym, ap, ◌∙◌}
use Rattle.fs_names.specs.Keys.{Key}
use Rattle.fs_names.specs.Names.{Name}
use Rattle.fs_names.specs.Shapes.{Shape, Dir, is_dir}
use Rattle.fs_nodes.specs.Graphs.{Graph, IsGraph, IsReached, at, then_at, reserved_in}

-- from a number that was not in use no directory is reached
pub leads_nowhere : (graph new : Graph) (n dir : ℕ) (s : Shape) → IsGraph graph → new ≡ reserved_in n s graph → graph.shape n ≡ None → IsTrue (is_dir (graph.shape dir)) → IsReached new.child n dir → ⊥
leads_nowhere graph new n dir s is reserved free there (key, e) = go key (ap (λ (g : Graph). at g.child n key) (sym reserved) ∙ e)
  where
    no_entry : (y : Name) (o : Option ℕ) → graph.child n y ≡ o → o ≡ None
    no_entry y None e = refl
    no_entry y (Some m) e = let d : (names : List Name) × (graph.shape n ≡ Some (Dir names)) × _ = is.of_dir n m y e in let z : ◌≡◌ {A = Option Shape} None (Some (Dir d.0)) = sym free ∙ d.1 in cc

    go : (key : Key) → at graph.child n key ≡ Some dir → ⊥
    go [] e = let z : n ≡ dir = cc in let w : is_dir (graph.shape dir) ≡ false = ap is_dir (ap graph.shape (sym z) ∙ free) in let v : true ≡ false = sym there ∙ w in cc
    go (y ∷ key) e = let z : ◌≡◌ {A = Option ℕ} None (Some dir) = sym (ap (λ (o : Option ℕ). then_at o (λ m. at graph.child m key)) (no_entry y (graph.child n y) refl)) ∙ e in cc
