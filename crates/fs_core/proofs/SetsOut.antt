-- On the heads of a call on two entries whose common directory is a file or is not there: they have not left it.
use Rattle.std.proofs.Common.{◌≡◌, ℕ, [], ◌∷◌, Option, Some, None, refl, sym, ap, ◌∙◌}
use Rattle.fs_names.specs.Keys.{Key, parent_of}
use Rattle.fs_names.specs.Parts.{left}
use Rattle.fs_names.specs.Shapes.{Shape, Dir, File}
use Rattle.fs_calls.specs.Forms.{Form, AtNode, AtEntry, AtPair}
use Rattle.fs_calls.specs.declared.errno.Errno.{Errno}
use Rattle.fs_calls.specs.Rows.{as_dir}
use Rattle.fs_nodes.specs.Graphs.{Graph, at, numbers, then_at, IsGraph}
use Rattle.fs_machine.specs.Moves.{dir_error}
use Rattle.fs_machine.specs.Records.{Holdings, Record, Source}
use Rattle.fs_machine.specs.States.{State, Run}
use Rattle.fs_laws.specs.CallFacts.{Located}
use Rattle.fs_laws.specs.Invariants.{Invariant}
use Rattle.fs_laws.proofs.graphs.Walks.{at_from}
use Rattle.fs_laws.proofs.states.Headline.{run_keeps}
use Rattle.fs_ops.specs.PlanOf.{SetsOut}

no_dir : (s : Option Shape) (e : Errno) (names : Key) → as_dir None s ≡ Some e → s ≡ Some (Dir names) → ⊥
no_dir s e names h is = let z : as_dir None (Some (Dir names)) ≡ Some e = sym (ap (as_dir None) is) ∙ h in cc

error_there : (l : Key) (s : Option Shape) (e : Errno) → as_dir None s ≡ Some e → dir_error l s ≡ Some e
error_there [] s e h = h
error_there (x ∷ l) None e h = h
error_there (x ∷ l) (Some (File bytes)) e h = h
error_there (x ∷ l) (Some (Dir names)) e h = absurd (cc)

-- a head does not leave what is no directory
stays : (graph : Graph) → IsGraph graph → (n m : ℕ) (walked : Key) (e : Errno) → as_dir None (graph.shape n) ≡ Some e → at graph.child n walked ≡ Some m → (walked ≡ []) × (m ≡ n)
stays graph is n m [] e h way = (refl, cc)
stays graph is n m (x ∷ walked) e h way = absurd (by (graph.child n x) refl way)
  where
    by : (o : Option ℕ) → graph.child n x ≡ o → then_at o (λ q. at graph.child q walked) ≡ Some m → ⊥
    by None k f = cc
    by (Some q) k f = let d = is.of_dir n q x k in no_dir (graph.shape n) e d.0 h d.1

-- so it is in every state of a run
pub sets_out : (s : State) (c : ℕ) (op : Record) (st : Holdings) → Run s → s.ops c ≡ Some op → op.holdings ≡ Some st → SetsOut s.graph op.remaining st
sets_out s c op st run is on = go op.remaining
  where
    inv : Invariant s
    inv = run_keeps s run

    loc : Located (numbers s.graph) (inv.key c) st
    loc = (inv.kept.each c op st is on).located

    way : at s.graph.child st.node st.source.walked ≡ Some st.source.node
    way = sym (at_from s.graph.child 0 st.node (inv.key c) st.source.walked loc.here) ∙ loc.head Source

    go : (f : Form) → SetsOut s.graph f st
    go (AtNode a p) = tt
    go (AtEntry a p) = tt
    go (AtPair a p q) = λ e h.
        (let there = stays s.graph inv.is_graph st.node st.source.node st.source.walked e h way in
        error_there (left st.source.walked (parent_of p)) (s.graph.shape st.source.node) e (ap (λ (n : ℕ). as_dir None (s.graph.shape n)) there.1 ∙ h))
