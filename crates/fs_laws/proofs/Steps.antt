-- Steps under a renaming.
use Rattle.std.proofs.Common.{◌≡◌, ℕ, Bool, true, false, cond, eqb, List, [], ◌∷◌, ◌++◌, Option, Some, None, refl, sym, ap, ap₂, ◌∙◌, subst, inl, inr}
use Rattle.std.specs.Prelude.{option_map}
use mathlib.Core.Path.{fun_ext}
use Rattle.fs_calls.specs.declared.reply.Reply.{Reply}
use Rattle.fs_timeline.specs.declared.entry.Entry.{Entry}
use Rattle.fs_timeline.specs.declared.entry.Entry.TheVariants.{Commit, Return}
use Rattle.fs_calls.specs.Starts.{Start}
use Rattle.fs_calls.specs.Graphs.{Graph, at, set_at}
use Rattle.fs_machine.specs.Finishes.{Effect, finish}
use Rattle.fs_machine.specs.declared.moves.Move.{Move}
use Rattle.fs_machine.specs.declared.moves.Move.TheVariants.{Take as Takes, LetGo as Leaves, Finish as Finishes, Return as Ends}
use Rattle.fs_machine.specs.declared.moves.Moved.{Moved}
use Rattle.fs_machine.specs.declared.moves.Moved.TheVariants.{Nothing, One, Two}
use Rattle.fs_machine.specs.Records.{Holdings, Record, Records}
use Rattle.fs_machine.specs.States.{State, Moves, IsMoved, IsWalkingBelow, IsWalkingBelowMoved, IsLowest, IsChosen, NoneBelow, Step, taking, letting_go, helping, carrying, committing, returning}
use Rattle.fs_machine.specs.declared.answers.Stepped.{Stepped}
use Rattle.fs_machine.specs.declared.answers.Stepped.TheVariants.{Idle, Took, Busy, LetGo, Helped, Committed, CarriedOut, Returned}
use Rattle.fs_laws.specs.Renamings.{Renaming, renamed_number, renamed_graph, renamed_holdings, renamed_record, renamed_records, renamed, renamed_moved, renamed_move, renamed_answer}
use Rattle.fs_laws.proofs.Edits.{old_at, walk_at, set_old}
use Rattle.fs_laws.proofs.Moves.{next_renamed, took_renamed, let_go_renamed, releasing_renamed, unreserved_renamed}
use Rattle.fs_laws.proofs.Finishes.{finish_renamed, finished_renamed}

-- ---- states with the same parts

-- a graph, holders, records, seats and timeline put into a state
with_parts : State → Graph → (ℕ → Option ℕ) → Records → (ℕ → Option ℕ) → List Entry → State
with_parts s graph holder ops seats timeline = record { limit = s.limit; start = s.start; graph = graph; holder = holder; ops = ops; on_seat = seats; timeline = timeline }

pub same_state : (limit : ℕ) (start : Start) (seats : ℕ → Option ℕ) (timeline : List Entry) (g h : Graph) (a b : ℕ → Option ℕ) (o p : Records) → g ≡ h → a ≡ b → o ≡ p
    → ◌≡◌ {A = State} (record { limit = limit; start = start; graph = g; holder = a; ops = o; on_seat = seats; timeline = timeline }) (record { limit = limit; start = start; graph = h; holder = b; ops = p; on_seat = seats; timeline = timeline })
same_state limit start seats timeline g h a b o p i j k =
    ap₂ (λ (x : Graph) (y : ℕ → Option ℕ). record { limit = limit; start = start; graph = x; holder = y; ops = o; on_seat = seats; timeline = timeline }) i j
    ∙ ap (λ (z : Records). record { limit = limit; start = start; graph = h; holder = b; ops = z; on_seat = seats; timeline = timeline }) k

-- one call's record changes
pub records_renamed : (r : Renaming) (c : ℕ) (v : Option Record) (ops : Records) → renamed_records r (set_at c v ops) ≡ set_at c (option_map (renamed_record r) v) (renamed_records r ops)
records_renamed r c v ops = fun_ext (λ d. go d (eqb d c))
  where
    go : (d : ℕ) (b : Bool) → option_map (renamed_record r) (cond b v (ops d)) ≡ cond b (option_map (renamed_record r) v) (renamed_records r ops d)
    go d true = refl
    go d false = refl

record_renamed : (r : Renaming) (c : ℕ) (v w : Record) (ops : Records) → renamed_record r v ≡ w → renamed_records r (set_at c (Some v) ops) ≡ set_at c (Some w) (renamed_records r ops)
record_renamed r c v w ops e = records_renamed r c (Some v) ops ∙ ap (λ (x : Record). set_at c (Some x) (renamed_records r ops)) e

-- ---- the states after steps

taking_renamed : (r : Renaming) (s : State) (c : ℕ) (op : Record) (n : ℕ) → renamed r (taking s c op n) ≡ taking (renamed r s) c (renamed_record r op) (r.to n)
taking_renamed r s c op n = same_state s.limit s.start s.on_seat s.timeline _ _ _ _ _ _ refl (set_old r n (Some c) s.holder) (record_renamed r c _ _ s.ops (sym (took_renamed r op n)))

letting_go_renamed : (r : Renaming) (s : State) (c : ℕ) (op : Record) (n : ℕ) → renamed r (letting_go s c op n) ≡ letting_go (renamed r s) c (renamed_record r op) (r.to n)
letting_go_renamed r s c op n = same_state s.limit s.start s.on_seat s.timeline _ _ _ _ _ _ (sym (releasing_renamed r op.removed n s.graph)) (set_old r n None s.holder) (record_renamed r c _ _ s.ops (sym (let_go_renamed r op n)))

helping_renamed : (r : Renaming) (s : State) (d : ℕ) (op : Record) → renamed r (helping s d op) ≡ helping (renamed r s) d (renamed_record r op)
helping_renamed r s d op = same_state s.limit s.start s.on_seat (s.timeline ++ Commit d ∷ []) _ _ _ _ _ _ refl refl (record_renamed r d _ _ s.ops refl)

graph_renamed : (r : Renaming) (graph : Graph) (op : Record) → renamed_graph r (finish graph op).graph ≡ (finish (renamed_graph r graph) (renamed_record r op)).graph
graph_renamed r graph op = ap (λ (m : Effect). m.graph) (sym (finish_renamed r graph op))

carrying_renamed : (r : Renaming) (s : State) (c : ℕ) (op : Record) → renamed r (carrying s c op) ≡ carrying (renamed r s) c (renamed_record r op)
carrying_renamed r s c op = same_state s.limit s.start s.on_seat s.timeline _ _ _ _ _ _ (graph_renamed r s.graph op) refl (record_renamed r c _ _ s.ops (sym (finished_renamed r s.graph op)))

committing_renamed : (r : Renaming) (s : State) (c : ℕ) (op : Record) → renamed r (committing s c op) ≡ committing (renamed r s) c (renamed_record r op)
committing_renamed r s c op = same_state s.limit s.start s.on_seat (s.timeline ++ Commit c ∷ []) _ _ _ _ _ _ (graph_renamed r s.graph op) refl (record_renamed r c _ _ s.ops (sym (finished_renamed r s.graph op)))

returning_renamed : (r : Renaming) (s : State) (c : ℕ) (op : Record) (reply : Reply) → renamed r (returning s c op reply) ≡ returning (renamed r s) c (renamed_record r op) reply
returning_renamed r s c op reply = same_state s.limit s.start (set_at op.seat None s.on_seat) (s.timeline ++ Return c reply ∷ []) _ _ _ _ _ _ (sym (unreserved_renamed r op.reserved s.graph)) refl (records_renamed r c None s.ops)

-- ---- whom to help

some_renamed : (r : Renaming) (o : Option Record) (q : Record) → option_map (renamed_record r) o ≡ Some q → (op : Record) × (o ≡ Some op) × (renamed_record r op ≡ q)
some_renamed r None q e = absurd (let z : ◌≡◌ {A = Option Record} None (Some q) = e in cc)
some_renamed r (Some op) q e = (op, refl, (let z : ◌≡◌ {A = Option Record} (Some (renamed_record r op)) (Some q) = e in cc))

some_holdings : (r : Renaming) (o : Option Holdings) (t : Holdings) → option_map (renamed_holdings r) o ≡ Some t → (st : Holdings) × (o ≡ Some st) × (renamed_holdings r st ≡ t)
some_holdings r None t e = absurd (let z : ◌≡◌ {A = Option Holdings} None (Some t) = e in cc)
some_holdings r (Some st) t e = (st, refl, (let z : ◌≡◌ {A = Option Holdings} (Some (renamed_holdings r st)) (Some t) = e in cc))

some_number : (r : Renaming) (o : Option ℕ) (n : ℕ) → renamed_number r o ≡ Some (r.to n) → o ≡ Some n
some_number r None n e = absurd (let z : ◌≡◌ {A = Option ℕ} None (Some (r.to n)) = e in cc)
some_number r (Some m) n e =
    let i : r.to m ≡ r.to n = (let z : ◌≡◌ {A = Option ℕ} (Some (r.to m)) (Some (r.to n)) = e in cc) in
    ap (λ (k : ℕ). Some k) (sym (r.there m) ∙ ap r.from i ∙ r.there n)

below_to : (r : Renaming) (s : State) (n d : ℕ) → IsWalkingBelow s n d → IsWalkingBelow (renamed r s) (r.to n) d
below_to r s n d (op, is, walks, (st, key, on, there)) =
    (renamed_record r op, ap (option_map (renamed_record r)) is, walks, (renamed_holdings r st, key, ap (option_map (renamed_holdings r)) on, walk_at r s.graph.child n key ∙ ap (renamed_number r) there))

below_from : (r : Renaming) (s : State) (n d : ℕ) → IsWalkingBelow (renamed r s) (r.to n) d → IsWalkingBelow s n d
below_from r s n d (q, is, walks, (t, key, on, there)) = go (some_renamed r (s.ops d) q is)
  where
    go : (op : Record) × (s.ops d ≡ Some op) × (renamed_record r op ≡ q) → IsWalkingBelow s n d
    go (op, i, j) = by (some_holdings r op.holdings t (ap (λ (x : Record). x.holdings) j ∙ on))
      where
        by : (st : Holdings) × (op.holdings ≡ Some st) × (renamed_holdings r st ≡ t) → IsWalkingBelow s n d
        by (st, k, l) = (op, i, ap (λ (x : Record). x.phase) j ∙ walks, (st, key, k, some_number r (at s.graph.child n key) st.node (sym (walk_at r s.graph.child n key) ∙ there ∙ ap (λ (x : Holdings). Some x.node) (sym l))))

-- the nodes that move
moved_to : (r : Renaming) (t : Moved) (n : ℕ) → IsMoved t n → IsMoved (renamed_moved r t) (r.to n)
moved_to r Nothing n i = i
moved_to r (One m) n i = ap r.to i
moved_to r (Two m k) n (inl i) = inl (ap r.to i)
moved_to r (Two m k) n (inr i) = inr (ap r.to i)

moved_from : (r : Renaming) (t : Moved) (n : ℕ) → IsMoved (renamed_moved r t) n → (m : ℕ) × IsMoved t m × (n ≡ r.to m)
moved_from r Nothing n i = absurd i
moved_from r (One m) n i = (m, refl, i)
moved_from r (Two m k) n (inl i) = (m, inl refl, i)
moved_from r (Two m k) n (inr i) = (k, inr refl, i)

moved_below_to : (r : Renaming) (s : State) (t : Moved) (d : ℕ) → IsWalkingBelowMoved s t d → IsWalkingBelowMoved (renamed r s) (renamed_moved r t) d
moved_below_to r s t d (n, one, below) = (r.to n, moved_to r t n one, below_to r s n d below)

moved_below_from : (r : Renaming) (s : State) (t : Moved) (d : ℕ) → IsWalkingBelowMoved (renamed r s) (renamed_moved r t) d → IsWalkingBelowMoved s t d
moved_below_from r s t d (n, one, below) =
    let m : (m : ℕ) × IsMoved t m × (n ≡ r.to m) = moved_from r t n one in
    (m.0, m.1, below_from r s m.0 d (subst (λ (k : ℕ). IsWalkingBelow (renamed r s) k d) m.2 below))

lowest_to : (r : Renaming) (s : State) (n : Moved) (d : ℕ) → IsLowest s n d → IsLowest (renamed r s) (renamed_moved r n) d
lowest_to r s n d (below, alone) = (moved_below_to r s n d below, λ q t e is on differs other. go q t e is on differs other (some_renamed r (s.ops d) q is))
  where
    go : (q : Record) (t : Holdings) (e : ℕ) → (renamed r s).ops d ≡ Some q → q.holdings ≡ Some t → (d ≡ e → ⊥) → IsWalkingBelow (renamed r s) t.node e → (op : Record) × (s.ops d ≡ Some op) × (renamed_record r op ≡ q) → ⊥
    go q t e is on differs other (op, i, j) = by (some_holdings r op.holdings t (ap (λ (x : Record). x.holdings) j ∙ on))
      where
        by : (st : Holdings) × (op.holdings ≡ Some st) × (renamed_holdings r st ≡ t) → ⊥
        by (st, k, l) = alone op st e i k differs (below_from r s st.node e (subst (λ (x : Holdings). IsWalkingBelow (renamed r s) x.node e) (sym l) other))

lowest_from : (r : Renaming) (s : State) (n : Moved) (d : ℕ) → IsLowest (renamed r s) (renamed_moved r n) d → IsLowest s n d
lowest_from r s n d (below, alone) = (
  moved_below_from r s n d below,
  λ op st e is on differs other.
      alone (renamed_record r op) (renamed_holdings r st) e (ap (option_map (renamed_record r)) is) (ap (option_map (renamed_holdings r)) on) differs (below_to r s st.node e other),
)

chosen_to : (r : Renaming) (s : State) (n : Moved) (d : ℕ) → IsChosen s n d → IsChosen (renamed r s) (renamed_moved r n) d
chosen_to r s n d (lowest, least) = (lowest_to r s n d lowest, λ e other. least e (lowest_from r s n e other))

none_to : (r : Renaming) (s : State) (o : Moved) → NoneBelow s o → NoneBelow (renamed r s) (renamed_moved r o)
none_to r s o none = λ d below. none d (moved_below_from r s o d below)

-- ---- steps

moves_renamed : (r : Renaming) (s : State) (seat c : ℕ) (op : Record) (m : Move) → Moves s seat c op m → Moves (renamed r s) seat c (renamed_record r op) (renamed_move r m)
moves_renamed r s seat c op m (on, is, move) = (on, ap (option_map (renamed_record r)) is, next_renamed r s.graph op ∙ ap (renamed_move r) move)

pub step_renamed : (r : Renaming) (s new : State) (seat : ℕ) (answer : Stepped) → Step s seat answer new → Step (renamed r s) seat (renamed_answer r answer) (renamed r new)
step_renamed r s new seat Idle (off, same) = (off, ap (renamed r) same)
step_renamed r s new seat (Took n) (c, op, moves, free, same) = (c, renamed_record r op, moves_renamed r s seat c op (Takes n) moves, old_at r s.holder n ∙ free, ap (renamed r) same ∙ taking_renamed r s c op n)
step_renamed r s new seat (Busy n d) (c, op, moves, held, same) = (c, renamed_record r op, moves_renamed r s seat c op (Takes n) moves, old_at r s.holder n ∙ held, ap (renamed r) same)
step_renamed r s new seat (LetGo n) (c, op, moves, same) = (c, renamed_record r op, moves_renamed r s seat c op (Leaves n) moves, ap (renamed r) same ∙ letting_go_renamed r s c op n)
step_renamed r s new seat (Helped d) (c, op, n, moves, walks, pick, q, is, same) =
    (c, renamed_record r op, renamed_moved r n, moves_renamed r s seat c op (Finishes n) moves, walks, chosen_to r s n d pick, renamed_record r q, ap (option_map (renamed_record r)) is, ap (renamed r) same ∙ helping_renamed r s d q)
step_renamed r s new seat Committed (c, op, o, moves, walks, none, same) =
    (c, renamed_record r op, renamed_moved r o, moves_renamed r s seat c op (Finishes o) moves, walks, none_to r s o none, ap (renamed r) same ∙ committing_renamed r s c op)
step_renamed r s new seat CarriedOut (c, op, o, i, moves, placed, same) =
    (c, renamed_record r op, renamed_moved r o, i, moves_renamed r s seat c op (Finishes o) moves, placed, ap (renamed r) same ∙ carrying_renamed r s c op)
step_renamed r s new seat (Returned reply) (c, op, moves, phase, same) = (c, renamed_record r op, moves_renamed r s seat c op Ends moves, phase, ap (renamed r) same ∙ returning_renamed r s c op reply)
