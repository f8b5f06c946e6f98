-- A file that is taken out, changed and put back.
use Rattle.std.proofs.Common.{◌≡◌, ℕ, Bool, true, false, cond, eqb, List, Option, Some, IsTrue, refl, ap, ◌∙◌}
use Rattle.fs_names.specs.Shapes.{Shape, File, is_file}
use Rattle.fs_calls.specs.Graphs.{Graph, content_in}
use Rattle.fs_calls.proofs.EqualLemmas.{eqb_refl, graph_by}
use Rattle.fs_nodes_places.specs.Seen.{Seen}

-- what stands there in between shows no more
content_twice : (n : ℕ) (old new : List ℕ) (graph : Graph) → content_in n new (content_in n old graph) ≡ content_in n new graph
content_twice n old new graph = graph_by (λ d y. refl) (λ m. by (eqb m n) (graph.shape m))
  where
    by : (b : Bool) (shape : Option Shape) → cond b (Some (File new)) (cond b (Some (File old)) shape) ≡ cond b (Some (File new)) shape
    by true shape = refl
    by false shape = refl

-- it is still a file's number
pub still_file : (s t : Seen) (n : ℕ) (old : List ℕ) → t ≡ record s { graph = content_in n old s.graph } → IsTrue (is_file (t.graph.shape n))
still_file s t n old e = rw (e, eqb_refl n) refl

-- both changes, as one
pub put_back : (s t u : Seen) (n : ℕ) (old new : List ℕ) → t ≡ record s { graph = content_in n old s.graph } → u ≡ record t { graph = content_in n new t.graph } → u ≡ record s { graph = content_in n new s.graph }
put_back s t u n old new e f = f ∙ ap (λ (z : Seen). record z { graph = content_in n new z.graph }) e ∙ ap (λ (g : Graph). record s { graph = g }) (content_twice n old new s.graph)
