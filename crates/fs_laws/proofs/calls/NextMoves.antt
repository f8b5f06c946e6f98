-- What holds of the next move of a call under way, in every state of a run.
use Rattle.std.proofs.Common.{◌≡◌, ℕ, Option, Some, None, sym, ap, ◌∙◌, subst, inl}
use Rattle.fs_names.specs.Keys.{Key, last_of}
use Rattle.fs_names.specs.Shapes.{Shape, Dir}
use Rattle.fs_calls.specs.Graphs.{numbers, IsGraph}
use Rattle.fs_machine.specs.Moves.{next}
use Rattle.fs_machine.specs.declared.moves.Move.TheVariants.{Take as Takes, LetGo as Leaves}
use Rattle.fs_machine.specs.Records.{Holds, Record, Holdings, head_on}
use Rattle.fs_laws.specs.Invariants.{Invariant}
use Rattle.fs_machine.specs.States.{State, Run}
use Rattle.fs_laws.proofs.calls.NodesHeld.{slot_holds, one_holdings}
use Rattle.fs_laws.proofs.events.LetGo.{LetsGo, On_way, At_end, Last, lets_go}
use Rattle.fs_laws.proofs.events.Take.{TakesFrom, From_nowhere, From_holdings, takes_from}
use Rattle.fs_laws.proofs.states.Headline.{run_keeps}
use Rattle.fs_laws.proofs.calls.Takes.{Entry, Of_head, Replaced, Take, Walk, There, takes_by}
use Rattle.fs_laws.proofs.calls.OneUnfinishedCall.{solo_of, solo_wants}
use Rattle.fs_laws.proofs.states.Agreement.{Holder, run_accounts}

-- the key of a node that a call wants
pub record Wanted (s : State) (n : ℕ) : Type 0 where
  pub key : Key
  pub at_key : numbers s.graph key ≡ Some n

-- a number that is named is in use
pub takes_used : (s : State) (c : ℕ) (op : Record) (n : ℕ) → Run s → s.ops c ≡ Some op → next s.graph op ≡ Takes n → (shape : Shape) × (s.graph.shape n ≡ Some shape)
takes_used s c op n run is m = go (takes_from s.graph op n m).0
  where
    graph : IsGraph s.graph
    graph = (run_keeps s run).is_graph

    by : (st : Holdings) → Take s.graph op n st → (shape : Shape) × (s.graph.shape n ≡ Some shape)
    by st (Walk x l way b child is) = graph.to_used st.node n x child
    by st (There (Entry e p rem way child off) b is) = graph.to_used st.node n (last_of p) child
    by st (There (Of_head side c p q x l rem way turn at_left child) b is) = graph.to_used (head_on side st).node n x child
    by st (There (Replaced most p q rem way there at_left want child off) b is) = graph.to_used st.dest.node n (last_of q) child

    go : TakesFrom s.graph op n → (shape : Shape) × (s.graph.shape n ≡ Some shape)
    go (From_nowhere text off z) = (Dir graph.root.0, sym (ap s.graph.shape z) ∙ graph.root.1)
    go (From_holdings st on t) = by st (takes_by s.graph op n st on t)

-- what a call wants is held by another, or by nobody
pub takes_another : (s : State) (c : ℕ) (op : Record) (n : ℕ) → Run s → s.ops c ≡ Some op → next s.graph op ≡ Takes n → s.holder n ≡ Some c → ⊥
takes_another s c op n run is m held = go (takes_from s.graph op n m).0 ((run_accounts s run).holds n c held)
  where
    go : TakesFrom s.graph op n → Holder s n c → ⊥
    go (From_nowhere text off z) (q, st, q_is, on, h) =
        let y : ◌≡◌ {A = Option Record} (Some q) (Some op) = sym q_is ∙ is in
        let x : op ≡ q = cc in
        (let w : ◌≡◌ {A = Option Holdings} None (Some st) = sym off ∙ ap (λ (o : Record). o.holdings) x ∙ on in cc)
    go (From_holdings st on t) (q, other, q_is, on_q, h) =
        let y : ◌≡◌ {A = Option Record} (Some q) (Some op) = sym q_is ∙ is in
        let x : op ≡ q = cc in
        let e : other ≡ st = one_holdings (ap (λ (o : Record). o.holdings) x ∙ on_q) on in
        solo_wants s.graph (run_keeps s run).is_graph ((run_keeps s run).key c) op n st (solo_of s (run_keeps s run) (run_accounts s run) c op st is (takes_from s.graph op n m).1 on) (takes_by s.graph op n st on t) (subst (λ (z : Holdings). Holds z n) e h)

-- what a call lets go it holds
pub leaves_held : (s : State) (c : ℕ) (op : Record) (n : ℕ) → Run s → s.ops c ≡ Some op → next s.graph op ≡ Leaves n → s.holder n ≡ Some c
leaves_held s c op n run is m = go (lets_go s.graph op n m)
  where
    inv : Invariant s
    inv = run_keeps s run

    go : LetsGo op n → s.holder n ≡ Some c
    go (On_way st new u on left_is l same) = (run_keeps s run).held c op st n is on (slot_holds st l.gone n l.was)
    go (At_end st new r ph on left_is l only) = (run_keeps s run).held c op st n is on (slot_holds st l.gone n l.was)
    go (Last st r ph on left_is node only) = (run_keeps s run).held c op st n is on (inl node)
