-- Where a call on two entries stands when its next move is to finish.
use Rattle.std.proofs.Common.{◌≡◌, ℕ, Bool, true, false, cond, List, [], ◌∷◌, ◌++◌, Option, Some, None, refl, sym, ap, ◌∙◌}
use Rattle.fs_names.specs.Keys.{Key, parent_of}
use Rattle.fs_names.specs.Names.{Name, same_name, has_name}
use Rattle.fs_names.specs.Parts.{common, left}
use Rattle.fs_names.specs.Shapes.{Shape, Dir, File}
use Rattle.fs_laws.specs.Changes.{resolve_dir}
use Rattle.fs_calls.specs.Forms.{AtPair, PairCall}
use Rattle.fs_calls.specs.Graphs.{Graph, at, IsGraph}
use Rattle.fs_machine.specs.Moves.{first_of, step_move, dir_then, fork_move, parents_move, next_on, walk_move, walk_errno, dir_error}
use Rattle.fs_machine.specs.declared.moves.Move.{Move}
use Rattle.fs_machine.specs.declared.moves.Move.TheVariants.{Finish as Finishes}
use Rattle.fs_machine.specs.declared.moves.Moved.{Moved}
use Rattle.fs_machine.specs.declared.moves.Moved.TheVariants.{Nothing}
use Rattle.fs_machine.specs.Records.{Holdings, Source}
use Rattle.fs_laws.specs.Invariants.{Forked, ForkedAt, HeadsSound}
use Rattle.fs_laws.proofs.calls.Behind.{finish_on}
use Rattle.fs_laws.proofs.graphs.Walks.{then_some}
use Rattle.fs_laws.proofs.finish.Readings.{shapes_from, Stops, ForkAt, dir_read}

-- where the next move is to finish, each walk that counts has stopped
walk_none : (s : Option Shape) (k : Option ℕ) (o : Moved) → walk_move s k ≡ Finishes o → walk_move s k ≡ Finishes Nothing
walk_none None k o e = refl
walk_none (Some (File bytes)) k o e = refl
walk_none (Some (Dir names)) None o e = refl
walk_none (Some (Dir names)) (Some m) o e = cc

pub step_stops : (graph : Graph) (n : ℕ) (l : Key) (m : Move) (s : Moved) → first_of (step_move graph n l) m ≡ Finishes s → Stops graph n l × (l ≡ [] → m ≡ Finishes s)
step_stops graph n [] m s e = (tt, λ i. e)
step_stops graph n (x ∷ l) m s e = (walk_none (graph.shape n) (graph.child n x) s e, λ i. cc)

-- from a node that is no directory nobody walks on
no_walk : (graph : Graph) → IsGraph graph → (n h : ℕ) (w : Key) → ((names : List Name) → graph.shape n ≡ Some (Dir names) → ⊥) → at graph.child n w ≡ Some h → n ≡ h
no_walk graph is n h [] f e = cc
no_walk graph is n h (x ∷ w) f e =
    let g : (c : ℕ) × (graph.child n x ≡ Some c) × (at graph.child c w ≡ Some h) = then_some (graph.child n x) (λ c. at graph.child c w) h e in
    let d : (names : List Name) × (graph.shape n ≡ Some (Dir names)) × (has_name x names ≡ true) = is.of_dir n g.0 x g.1 in
    absurd (f d.0 d.1)

stops_else : (graph : Graph) (h : ℕ) (l : Key) (s : Option Shape) → graph.shape h ≡ s → ((names : List Name) → s ≡ Some (Dir names) → ⊥) → Stops graph h l
stops_else graph h [] s e f = tt
stops_else graph h (x ∷ l) None e f = ap (λ (o : Option Shape). walk_move o (graph.child h x)) e
stops_else graph h (x ∷ l) (Some (File bytes)) e f = ap (λ (o : Option Shape). walk_move o (graph.child h x)) e
stops_else graph h (x ∷ l) (Some (Dir names)) e f = absurd (f names refl)

dir_fails : (l : Key) (s : Option Shape) → ((names : List Name) → s ≡ Some (Dir names) → ⊥) → dir_error l s ≡ None → ⊥
dir_fails [] None f e = cc
dir_fails [] (Some (Dir names)) f e = f names refl
dir_fails [] (Some (File bytes)) f e = cc
dir_fails (x ∷ l) s f e = cc

no_dir : (s : Option Shape) → (s ≡ None) → (names : List Name) → s ≡ Some (Dir names) → ⊥
no_dir s e names f = cc

file_dir : (s : Option Shape) (bytes : List ℕ) → (s ≡ Some (File bytes)) → (names : List Name) → s ≡ Some (Dir names) → ⊥
file_dir s bytes e names f = let z : ◌≡◌ {A = Option Shape} (Some (File bytes)) (Some (Dir names)) = sym e ∙ f in cc

pub fork_stops : (graph : Graph) → IsGraph graph → (n : ℕ) (c : PairCall) (p q : Key) (st : Holdings) (s : Moved) → st.node ≡ n → Forked graph n p q st → fork_move graph c p q st ≡ Finishes s → ForkAt graph n p q st
fork_stops graph is n c p q st s here f e = record { fork = f; source_stops = both.0; dest_stops = both.1 }
  where
    Both : Type 0
    Both = Stops graph st.source.node (left st.source.walked (parent_of p)) × (dir_error (left st.source.walked (parent_of p)) (graph.shape st.source.node) ≡ None → Stops graph st.dest.node (left st.dest.walked (parent_of q)))

    no_way : ((names : List Name) → graph.shape n ≡ Some (Dir names) → ⊥) → Stops graph st.source.node (left st.source.walked (parent_of p)) × (dir_error (left st.source.walked (parent_of p)) (graph.shape st.source.node) ≡ None → Stops graph st.dest.node (left st.dest.walked (parent_of q)))
    no_way none =
        let z : n ≡ st.source.node = no_walk graph is n st.source.node st.source.walked none (f.stands Source) in
        let none2 : (names : List Name) → graph.shape st.source.node ≡ Some (Dir names) → ⊥ = λ names i. none names (ap graph.shape z ∙ i) in
        (stops_else graph st.source.node (left st.source.walked (parent_of p)) (graph.shape st.source.node) refl none2, λ i. absurd (dir_fails (left st.source.walked (parent_of p)) (graph.shape st.source.node) none2 i))

    dest : (t : Option Shape) (m : Move) → graph.shape st.source.node ≡ t → dir_then t (first_of (step_move graph st.dest.node (left st.dest.walked (parent_of q))) m) ≡ Finishes s
        → dir_error (left st.source.walked (parent_of p)) (graph.shape st.source.node) ≡ None → Stops graph st.dest.node (left st.dest.walked (parent_of q))
    dest None m i g j = absurd (dir_fails (left st.source.walked (parent_of p)) (graph.shape st.source.node) (no_dir (graph.shape st.source.node) i) j)
    dest (Some (File bytes)) m i g j = absurd (dir_fails (left st.source.walked (parent_of p)) (graph.shape st.source.node) (file_dir (graph.shape st.source.node) bytes i) j)
    dest (Some (Dir names)) m i g j = (step_stops graph st.dest.node (left st.dest.walked (parent_of q)) m s g).0

    source : (m : Move) → first_of (step_move graph st.source.node (left st.source.walked (parent_of p))) (dir_then (graph.shape st.source.node) (first_of (step_move graph st.dest.node (left st.dest.walked (parent_of q))) m)) ≡ Finishes s
        → Stops graph st.source.node (left st.source.walked (parent_of p)) × (dir_error (left st.source.walked (parent_of p)) (graph.shape st.source.node) ≡ None → Stops graph st.dest.node (left st.dest.walked (parent_of q)))
    source m g =
        let h : Stops graph st.source.node (left st.source.walked (parent_of p)) × (left st.source.walked (parent_of p) ≡ [] → dir_then (graph.shape st.source.node) (first_of (step_move graph st.dest.node (left st.dest.walked (parent_of q))) m) ≡ Finishes s) =
        step_stops graph st.source.node (left st.source.walked (parent_of p)) (dir_then (graph.shape st.source.node) (first_of (step_move graph st.dest.node (left st.dest.walked (parent_of q))) m)) s g in
        (h.0, λ i. dest (graph.shape st.source.node) m refl (h.1 (came (left st.source.walked (parent_of p)) (graph.shape st.source.node) i)) i)
      where
        came : (l : Key) (t : Option Shape) → dir_error l t ≡ None → l ≡ []
        came [] t e = refl
        came (x ∷ l) t e = cc

    at_node : (t : Option Shape) (m : Move) → graph.shape n ≡ t → dir_then t (first_of (step_move graph st.source.node (left st.source.walked (parent_of p))) (dir_then (graph.shape st.source.node) (first_of (step_move graph st.dest.node (left st.dest.walked (parent_of q))) m))) ≡ Finishes s
        → Stops graph st.source.node (left st.source.walked (parent_of p)) × (dir_error (left st.source.walked (parent_of p)) (graph.shape st.source.node) ≡ None → Stops graph st.dest.node (left st.dest.walked (parent_of q)))
    at_node None m i g = no_way (no_dir (graph.shape n) i)
    at_node (Some (File bytes)) m i g = no_way (file_dir (graph.shape n) bytes i)
    at_node (Some (Dir names)) m i g = source m g

    both : Stops graph st.source.node (left st.source.walked (parent_of p)) × (dir_error (left st.source.walked (parent_of p)) (graph.shape st.source.node) ≡ None → Stops graph st.dest.node (left st.dest.walked (parent_of q)))
    both = at_node (graph.shape n) (dir_then (graph.shape st.dest.node) (parents_move graph c p q st)) refl
        (ap (λ (m : ℕ). dir_then (graph.shape m) (first_of (step_move graph st.source.node (left st.source.walked (parent_of p))) (dir_then (graph.shape st.source.node) (first_of (step_move graph st.dest.node (left st.dest.walked (parent_of q))) (dir_then (graph.shape st.dest.node) (parents_move graph c p q st)))))) (sym here) ∙ e)

common_step : (x : Name) (a c : Key) → (r : Key) × (a ≡ c ++ r) → (b : Bool) → (r : Key) × (x ∷ a ≡ cond b (x ∷ c) [] ++ r)
common_step x a c i true = (i.0, ap (λ (l : Key). x ∷ l) i.1)
common_step x a c i false = (x ∷ a, refl)

-- the common beginning is one
pub common_is : (a b : Key) → (r : Key) × (a ≡ common a b ++ r)
common_is [] b = ([], refl)
common_is (x ∷ a) [] = (x ∷ a, refl)
common_is (x ∷ a) (y ∷ b) = common_step x a (common a b) (common_is a b) (same_name x y)

-- where a pair that is to finish stands: short of its common directory, at a walk that stops, or there
pub data Standing (graph : Graph) (c : PairCall) (p q : Key) (st : Holdings) (o : Moved) : Type 0 where
  Stuck : (x : Name) (l : Key) → common (parent_of p) (parent_of q) ≡ x ∷ l → Stops graph st.node (x ∷ l) → Standing graph c p q st o
  At_fork : common (parent_of p) (parent_of q) ≡ [] → ForkAt graph st.node p q st → fork_move graph c p q st ≡ Finishes o → Standing graph c p q st o

pub standing : (graph : Graph) → IsGraph graph → (c : PairCall) (p q : Key) (st : Holdings) (o : Moved) → HeadsSound graph st.node (AtPair c p q) st → next_on graph (AtPair c p q) st ≡ Finishes o → Standing graph c p q st o
standing graph is c p q st o well e = go (common (parent_of p) (parent_of q)) refl well (finish_on graph (AtPair c p q) st o e)
  where
    go : (l : Key) → common (parent_of p) (parent_of q) ≡ l → ForkedAt graph st.node p q st l → first_of (step_move graph st.node l) (fork_move graph c p q st) ≡ Finishes o → Standing graph c p q st o
    go (x ∷ l) i w f = Stuck x l i (step_stops graph st.node (x ∷ l) (fork_move graph c p q st) o f).0
    go [] i w f =
        let moves : fork_move graph c p q st ≡ Finishes o = (step_stops graph st.node [] (fork_move graph c p q st) o f).1 refl in
        At_fork i (fork_stops graph is st.node c p q st o refl w moves) moves

-- the names that are left of the first path where the walk stops
pub stuck_path : (p q : Key) (x : Name) (l : Key) → common (parent_of p) (parent_of q) ≡ x ∷ l → (r : Key) × (parent_of p ≡ x ∷ (l ++ r))
stuck_path p q x l i = let r : (r : Key) × (parent_of p ≡ common (parent_of p) (parent_of q) ++ r) = common_is (parent_of p) (parent_of q) in (r.0, r.1 ∙ ap (λ (k : Key). k ++ r.0) i)

-- so the first parent does not resolve
pub stuck_read : (graph : Graph) → IsGraph graph → (s : Shape) (p q : Key) (st : Holdings) (x : Name) (l : Key) → graph.shape st.node ≡ Some s → common (parent_of p) (parent_of q) ≡ x ∷ l → Stops graph st.node (x ∷ l)
    → resolve_dir (shapes_from graph st.node) (parent_of p) ≡ Some (walk_errno (graph.shape st.node))
stuck_read graph is s p q st x l u i stop =
    let d : (r : Key) × (parent_of p ≡ x ∷ (l ++ r)) = stuck_path p q x l i in
    ap (resolve_dir (shapes_from graph st.node)) d.1 ∙ sym (dir_read graph is st.node st.node s [] (x ∷ (l ++ d.0)) u refl stop)
