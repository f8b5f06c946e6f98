-- A timeline can begin at the root alone.
use Rattle.std.proofs.Common.{◌≡◌, ℕ, ◌≤◌, Bool, true, false, cond, eqb, List, [], ◌∷◌, Option, Some, None, refl, sym, ap, ◌∙◌, subst, arith, length}
use mathlib.Core.Path.{fun_ext}
use Rattle.fs_names.specs.Keys.{Key}
use Rattle.fs_names.specs.Names.{Name, has_name}
use Rattle.fs_names.specs.Shapes.{Shape, Dir, File}
use Rattle.fs_names.specs.Limits.{entry_limit}
use Rattle.fs_calls.specs.Tree.{root_tree, look}
use Rattle.fs_calls.specs.Sights.{tree_shapes}
use Rattle.fs_calls.proofs.TreeLaws.{played_trees_are_trees}
use Rattle.fs_calls.specs.Starts.{root_start}
use Rattle.fs_names.specs.declared.limits.Limits.{Limits}
use Rattle.fs_calls.specs.Graphs.{numbers, graph_shapes, IsGraph, empty_graph}
use Rattle.fs_machine.specs.States.{IsStart, AreRising}
use Rattle.fs_laws.proofs.events.OneCallChanged.{Place, Here, Else, place}

root_key : (key : Key) (n : ℕ) → numbers empty_graph key ≡ Some n → (key ≡ []) × (n ≡ 0)
root_key [] n e = (refl, cc)
root_key (x ∷ key) n e = cc

graph_start : IsGraph empty_graph
graph_start = record {
  one_key = λ a b n e f. (root_key a n e).0 ∙ sym (root_key b n f).0;
  of_dir = λ n m x e. cc;
  to_used = λ n m x e. cc;
  listed = λ n names x e h. listed n names x (eqb n 0) e h;
  root = ([], refl);
  loose = λ n m x e. cc;
}
  where
    listed : (n : ℕ) (names : List Name) (x : Name) (b : Bool) → cond b (Some (Dir [])) None ≡ Some (Dir names) → has_name x names ≡ true → (m : ℕ) × (◌≡◌ {A = Option ℕ} None (Some m))
    listed n names x true e h = let z : [] ≡ names = cc in let w : false ≡ true = ap (has_name x) z ∙ h in cc
    listed n names x false e h = cc

spelled_start : (key : Key) → graph_shapes empty_graph key ≡ tree_shapes root_tree key
unfolding look
spelled_start [] = refl
spelled_start (x ∷ key) = refl

-- the root is the one number in use
only_root : (n : ℕ) (s : Shape) → empty_graph.shape n ≡ Some s → Place (Option Shape) 0 (Some (Dir [])) (λ m. None) n → (n ≡ 0) × (s ≡ Dir [])
only_root n s e (Here i j) = let z : ◌≡◌ {A = Option Shape} (Some (Dir [])) (Some s) = sym j ∙ e in let y : s ≡ Dir [] = cc in (i, y)
only_root n s e (Else h j) = let z : ◌≡◌ {A = Option Shape} None (Some s) = sym j ∙ e in cc

root_is : (n : ℕ) (s : Shape) → empty_graph.shape n ≡ Some s → (n ≡ 0) × (s ≡ Dir [])
root_is n s e = only_root n s e (place 0 (Some (Dir [])) (λ m. None) n)

pub starts_empty : (limits : Limits) (limit : ℕ) → 1 ≤ limit → IsStart limit (root_start limits) empty_graph
starts_empty limits limit more = record {
  least = more;
  tree = played_trees_are_trees.0;
  spelled = fun_ext spelled_start;
  is_graph = graph_start;
  bounded = record {
    entries = λ n names e. let z : Dir names ≡ Dir [] = (root_is n (Dir names) e).1 in let y : names ≡ [] = cc in subst (λ (l : List Name). length l ≤ entry_limit limits) (sym y) (omega arith);
    bytes = λ n bytes e. let z : File bytes ≡ Dir [] = (root_is n (File bytes) e).1 in cc;
  };
  rising = λ n names e. let z : Dir names ≡ Dir [] = (root_is n (Dir names) e).1 in let y : names ≡ [] = cc in subst AreRising (sym y) tt;
  below = λ n s e. let z : n ≡ 0 = (root_is n s e).0 in omega (arith, z, more);
  reached = λ n s e. ([], ap Some (sym (root_is n s e).0));
}
