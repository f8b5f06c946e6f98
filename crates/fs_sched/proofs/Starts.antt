-- The tree at which a run's timeline begins keeps the limits.
use Rattle.std.proofs.Common.{◌≡◌, ℕ, ◌++◌, ◌∷◌, ◌≤◌, Bool, true, false, cond, List, [], length, is_some, Option, Some, None, refl, sym, ap, ◌∙◌, subst, arith}
use Rattle.fs_names.specs.Keys.{Key}
use Rattle.fs_names.specs.Names.{Name, has_name}
use Rattle.fs_names.specs.Shapes as shape
use Rattle.fs_names.specs.Shapes.{Shape}
use Rattle.fs_names.proofs.Lemmas.{same_name_refl}
use Rattle.fs_names.specs.Limits.{entry_limit}
use Rattle.fs_calls.specs.Sights.{tree_shapes, shape_of}
use Rattle.fs_calls.specs.Tree.{Node, Dir, look, names_in}
use Rattle.fs_calls.specs.Starts.{Start}
use Rattle.fs_nodes.specs.Graphs.{Graph, numbers, then_at}
use Rattle.fs_machine.specs.States.{State, IsStart, Run, Starting, Beginning, Stepping}
use Rattle.fs_laws.proofs.journal.ViewOfTimeline.{begin_start, step_start}
use Rattle.fs_laws.proofs.trees.SeenAsMaps.{old_has}
use Rattle.fs_seq.specs.Rows.{IsWithinLimits}

-- some graph spells it
record Begins (start : Start) : Type 0 where
  limit : ℕ
  graph : Graph
  is : IsStart limit start graph

begins : (s : State) → Run s → Begins s.start
begins s (Starting limit tree graph h) = record { limit = limit; graph = graph; is = h }
begins s (Beginning {old} seat call answer new run b) = subst Begins (sym (begin_start old seat call answer new b)) (begins old run)
begins s (Stepping {old} seat answer new run st) = subst Begins (sym (step_start old seat answer new st)) (begins old run)

-- what the tree shows at a key is a node's
node_at : (start : Start) (b : Begins start) (k : Key) (x : Shape) → tree_shapes start.tree k ≡ Some x → (n : ℕ) × (b.graph.shape n ≡ Some x)
node_at start b k x e = go (numbers b.graph k) (ap (λ (f : Key → Option Shape). f k) b.is.spelled ∙ e)
  where
    go : (o : Option ℕ) → then_at o b.graph.shape ≡ Some x → (n : ℕ) × (b.graph.shape n ≡ Some x)
    go None h = absurd (let z : ◌≡◌ {A = Option Shape} None (Some x) = h in cc)
    go (Some n) h = (n, h)

-- a directory that has a name is there
there : (start : Start) (b : Begins start) (d : Key) (y : Name) (ys : List Name) → names_in start.tree d ≡ y ∷ ys → look start.tree d ≡ Some Dir
there start b d y ys e = go (look start.tree (d ++ y ∷ [])) refl (sym (old_has start.tree d y) ∙ ap (has_name y) e ∙ ap (λ (t : Bool). cond t true (has_name y ys)) (same_name_refl y))
  where
    go : (o : Option Node) → look start.tree (d ++ y ∷ []) ≡ o → is_some o ≡ true → look start.tree d ≡ Some Dir
    go None f h = absurd (let z : ◌≡◌ {A = Bool} false true = h in cc)
    go (Some n) f h = b.is.tree.inside d y n f

within : (start : Start) → Begins start → IsWithinLimits start.limits start.tree
within start b = record {
  tree = b.is.tree;
  entries = λ d. few d (names_in start.tree d) refl;
  bytes = λ k bytes e. (let n : (n : ℕ) × (b.graph.shape n ≡ Some (shape.File bytes)) = node_at start b k (shape.File bytes) (ap (shape_of start.tree k) e) in b.is.bounded.bytes n.0 bytes n.1);
}
  where
    few : (d : Key) (names : List Name) → names_in start.tree d ≡ names → length (names_in start.tree d) ≤ entry_limit start.limits
    few d [] e = let z : length (names_in start.tree d) ≡ 0 = ap length e in omega (arith, z)
    few d (y ∷ ys) e =
        let n : (n : ℕ) × (b.graph.shape n ≡ Some (shape.Dir (names_in start.tree d))) = node_at start b d (shape.Dir (names_in start.tree d)) (ap (shape_of start.tree d) (there start b d y ys e)) in
        b.is.bounded.entries n.0 (names_in start.tree d) n.1

pub starts_within : (s : State) → Run s → IsWithinLimits s.start.limits s.start.tree
starts_within s run = within s.start (begins s run)
