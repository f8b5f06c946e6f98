-- An unlink of a node without entries leaves a graph.
use Rattle.std.proofs.Common.{◌≡◌, ℕ, Bool, true, false, cond, eqb, ◌&&◌, List, [], ◌∷◌, ◌++◌, Option, Some, None, sym, ap, ◌∙◌}
use Rattle.fs_names.specs.Keys.{Key}
use Rattle.fs_names.specs.Names.{Name, same_name}
use Rattle.fs_names.specs.Shapes.{Dir}
use Rattle.fs_laws.specs.Maps.{Map}
use Rattle.fs_calls.specs.Graphs.{Graph, numbers, unlinked_in, IsGraph}
use Rattle.fs_laws.proofs.trees.Commuting.{put_other}
use Rattle.fs_laws.proofs.graphs.Walks.{at_child}
use Rattle.fs_laws.proofs.graphs.TreesOfChanges.{CanUnlink, numbers_unlinked, at_cut}
use Rattle.fs_laws.proofs.graphs.Local.{Local, local_of, local_unlinked}

pub graph_unlinked : (graph : Graph) → IsGraph graph → (kd : Key) (dir : ℕ) (x : Name) (n : ℕ) (names : List Name) → CanUnlink graph kd dir x n → graph.shape dir ≡ Some (Dir names) → IsGraph (unlinked_in dir x graph)
graph_unlinked graph is kd dir x n names can dir_is = record {
  one_key = λ a b m e f. is.one_key a b m (at_cut graph.child dir x 0 m a e) (at_cut graph.child dir x 0 m b f);
  of_dir = all.of_dir;
  to_used = all.to_used;
  listed = all.listed;
  root = all.root;
  loose = λ m q z e. loose m q z (was m q z (eqb m dir && same_name z x) e);
}
  where
    was : (m q : ℕ) (z : Name) (b : Bool) → cond b None (graph.child m z) ≡ Some q → graph.child m z ≡ Some q
    was m q z true e = cc
    was m q z false e = e

    all : Local (unlinked_in dir x graph)
    all = local_unlinked graph (local_of graph is) dir x names dir_is

    loose : (m q : ℕ) (z : Name) → graph.child m z ≡ Some q → (key : Key) × (numbers (unlinked_in dir x graph) key ≡ Some m)
    loose m q z e =
        let l : (key : Key) × (numbers graph key ≡ Some m) = is.loose m q z e in (
          l.0,
          ap (λ (t : Map ℕ). t l.0) (numbers_unlinked graph is kd dir x n can)
              ∙ put_other (kd ++ x ∷ []) None (numbers graph) l.0 (λ i.
              (let a : ◌≡◌ {A = Option ℕ} (Some m) (Some n) = sym l.1 ∙ ap (numbers graph) i ∙ at_child graph.child 0 dir kd x can.dir_at ∙ can.there in
              let b : m ≡ n = cc in
              let c : ◌≡◌ {A = Option ℕ} None (Some q) = sym (can.leaf z) ∙ ap (λ (d : ℕ). graph.child d z) (sym b) ∙ e in
              cc))
              ∙ l.1,
        )
