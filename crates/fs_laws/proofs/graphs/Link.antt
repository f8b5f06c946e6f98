-- A link leaves a graph.
use Rattle.std.proofs.Common.{◌≡◌, ℕ, Bool, true, false, cond, eqb, ◌&&◌, List, [], ◌∷◌, ◌++◌, Option, Some, None, refl, sym, ap, ◌∙◌, subst}
use Rattle.fs_names.specs.Keys.{Key}
use Rattle.fs_names.specs.Names.{Name, same_name}
use Rattle.fs_names.specs.Shapes.{Dir}
use Rattle.fs_laws.specs.Maps.{Map, put}
use Rattle.fs_calls.specs.Graphs.{Graph, numbers, linked_in, IsGraph}
use Rattle.fs_laws.proofs.trees.Commuting.{put_other}
use Rattle.fs_laws.proofs.graphs.Walks.{eqb_true, at_child}
use Rattle.fs_laws.proofs.graphs.TreesOfChanges.{CanLink, numbers_linked, put_one}
use Rattle.fs_laws.proofs.graphs.Local.{Local, local_of, local_linked}

pub graph_linked : (graph : Graph) → IsGraph graph → (kd : Key) (dir : ℕ) (x : Name) (n : ℕ) (names : List Name) → CanLink graph kd dir x n → graph.shape dir ≡ Some (Dir names) → IsGraph (linked_in dir x n graph)
graph_linked graph is kd dir x n names can dir_is = record {
  one_key = subst (λ (t : Map ℕ). (a b : Key) (m : ℕ) → t a ≡ Some m → t b ≡ Some m → a ≡ b) (sym new_numbers) (put_one (numbers graph) (kd ++ x ∷ []) n can.unlinked is.one_key);
  of_dir = all.of_dir;
  to_used = all.to_used;
  listed = all.listed;
  root = all.root;
  loose = λ m q z e. loose m q z (eqb m dir) (same_name z x) refl e;
}
  where
    new_numbers : numbers (linked_in dir x n graph) ≡ put (kd ++ x ∷ []) (Some n) (numbers graph)
    new_numbers = numbers_linked graph is kd dir x n can

    all : Local (linked_in dir x n graph)
    all = local_linked graph (local_of graph is) dir x n names can.used.0 can.used.1 dir_is

    stays : (m : ℕ) (key : Key) → numbers graph key ≡ Some m → numbers (linked_in dir x n graph) key ≡ Some m
    stays m key e =
        ap (λ (t : Map ℕ). t key) new_numbers
        ∙ put_other (kd ++ x ∷ []) (Some n) (numbers graph) key (λ i. (let z : ◌≡◌ {A = Option ℕ} (Some m) None = sym e ∙ ap (numbers graph) i ∙ at_child graph.child 0 dir kd x can.dir_at ∙ can.free in cc))
        ∙ e

    loose : (m q : ℕ) (z : Name) (b c : Bool) → eqb m dir ≡ b → cond (b && c) (Some n) (graph.child m z) ≡ Some q → (key : Key) × (numbers (linked_in dir x n graph) key ≡ Some m)
    loose m q z true c i e = (kd, stays m kd (can.dir_at ∙ ap (λ (d : ℕ). Some d) (sym (eqb_true m dir i))))
    loose m q z false c i e = let l : (key : Key) × (numbers graph key ≡ Some m) = is.loose m q z e in (l.0, stays m l.0 l.1)
