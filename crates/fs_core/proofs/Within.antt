-- A tree at which a timeline can begin is within the limits.
use Rattle.std.proofs.Common.{◌≡◌, ℕ, ◌≤◌, Bool, true, cond, List, [], ◌∷◌, ◌++◌, length, Option, Some, None, is_some, refl, sym, ap, ◌∙◌, subst, arith}
use Rattle.std.specs.Prelude.{Result, Ok, Err, IfOk}
use Rattle.fs_names.specs.Keys.{Key}
use Rattle.fs_names.specs.Names.{Name, has_name}
use Rattle.fs_names.specs.Shapes.{Shape, Dir, File}
use Rattle.fs_names.specs.Limits.{entry_limit}
use Rattle.fs_calls.specs.Starts.{Start}
use Rattle.fs_calls.specs.Outcomes.{next_start}
use Rattle.fs_timeline.specs.Timeline.{commits}
use Rattle.fs_calls.specs.Tree as trees
use Rattle.fs_calls.specs.Tree.{Tree, Node, IsTree, look, names_in}
use Rattle.fs_calls.specs.Sights.{shape_of}
use Rattle.fs_seq.specs.Rows.{IsWithinLimits}
use Rattle.fs_nodes.specs.Graphs.{Graph, numbers}
use Rattle.fs_nodes.specs.Stores.{graph_of}
use Rattle.fs_machine.specs.States.{IsStart, Run}
use Rattle.fs_laws.specs.Maps.{Map}
use Rattle.fs_laws.proofs.graphs.Walks.{then_some}
use Rattle.fs_laws.proofs.trees.Prefixes.{same_refl}
use Rattle.fs_laws.proofs.trees.SeenAsMaps.{old_has}
use Rattle.fs_laws.proofs.Again.{begins_again}
use Rattle.fs_core.specs.CoreValues.{CoreValue, state_of, IsAtRest}
use Rattle.fs_core.proofs.Resting.{idle_at_rest}

-- what is no directory has no names
no_names_at : (t : Tree) (d : Key) → IsTree t → (look t d ≡ Some trees.Dir → ⊥) → names_in t d ≡ []
no_names_at t d is no_dir = go (names_in t d) refl
  where
    child : (x : Name) (o : Option Node) → look t (d ++ x ∷ []) ≡ o → is_some o ≡ true → ⊥
    child x None e some = cc
    child x (Some n) e some = no_dir (is.inside d x n e)

    go : (names : List Name) → names_in t d ≡ names → names_in t d ≡ []
    go [] e = e
    go (x ∷ names) e = absurd (child x (look t (d ++ x ∷ [])) refl (sym (old_has t d x) ∙ ap (has_name x) e ∙ ap (λ (b : Bool). cond b true (has_name x names)) (same_refl x)))

pub starts_within : (limit : ℕ) (start : Start) (g : Graph) → IsStart limit start g → IsWithinLimits start.limits start.tree
starts_within limit start g is = record {
  tree = is.tree;
  entries = λ d. entries d (look start.tree d) refl;
  bytes = λ k bytes e. let n = there k (File bytes) (ap (shape_of start.tree k) e) in is.bounded.bytes n.0 bytes n.1;
}
  where
    there : (k : Key) (s : Shape) → shape_of start.tree k (look start.tree k) ≡ Some s → (n : ℕ) × (g.shape n ≡ Some s)
    there k s e = let n = then_some (numbers g k) g.shape s (ap (λ (m : Map Shape). m k) is.spelled ∙ e) in (n.0, n.2)

    few : (d : Key) → names_in start.tree d ≡ [] → length (names_in start.tree d) ≤ entry_limit start.limits
    few d e = subst (λ (names : List Name). length names ≤ entry_limit start.limits) (sym e) (omega arith)

    entries : (d : Key) (o : Option Node) → look start.tree d ≡ o → length (names_in start.tree d) ≤ entry_limit start.limits
    entries d None e = few d (no_names_at start.tree d is.tree (λ h. let z : ◌≡◌ {A = Option Node} None (Some trees.Dir) = sym e ∙ h in cc))
    entries d (Some trees.Dir) e = let n = there d (Dir (names_in start.tree d)) (ap (shape_of start.tree d) e) in is.bounded.entries n.0 (names_in start.tree d) n.1
    entries d (Some (trees.File bytes)) e = few d (no_names_at start.tree d is.tree (λ h. let z : ◌≡◌ {A = Option Node} (Some (trees.File bytes)) (Some trees.Dir) = sym e ∙ h in cc))

-- so is the tree at which the timeline of a core at rest would begin again
pub next_within : {E : Type 0} (m : CoreValue) (answer : Result Start E) → Run (state_of m) → IsAtRest m → IfOk answer (λ tree. tree ≡ next_start m.start (commits m.timeline)) → IfOk answer (λ tree. IsWithinLimits tree.limits tree.tree)
next_within m (Err e) run rest is = tt
next_within m (Ok tree) run rest is =
    subst (λ (s : Start). IsWithinLimits s.limits s.tree) (sym is) (starts_within _ (next_start m.start (commits m.timeline)) (graph_of m.store) (begins_again (state_of m) run (idle_at_rest m rest)))
