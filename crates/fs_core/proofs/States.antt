-- States of a core: when two are the same, and what a call on a seat is in them.
use Rattle.std.proofs.Common.{◌≡◌, ℕ, ◌+◌, List, [], ◌∷◌, ◌++◌, Option, Some, None, refl, sym, ap, ◌∙◌}
use Rattle.std.specs.Prelude.{slice_get}
use Rattle.fs_calls.specs.Starts.{Start}
use Rattle.fs_calls.specs.declared.reply.Reply.{Reply}
use Rattle.fs_nodes.specs.Graphs.{Graph}
use Rattle.fs_nodes.specs.Stores.{graph_of}
use Rattle.fs_timeline.specs.declared.entry.Entry.{Entry}
use Rattle.fs_timeline.specs.declared.entry.Entry.TheVariants.{Begin, Commit, Return}
use Rattle.fs_names.specs.Keys.{Key}
use Rattle.fs_machine.specs.Finishes.{finish}
use Rattle.fs_machine.specs.Moves.{took, took_by, target}
use Rattle.fs_machine.specs.declared.moves.Move.{Move}
use Rattle.fs_machine.specs.Records.{Holdings, Finished, Record, Records}
use Rattle.fs_machine.specs.OpValues.{OpValue, phase_of, record_of, next_of, IsTook, IsLetGo, IsFinished}
use Rattle.fs_timeline.specs.Timeline.{begins, commit_count}
use Rattle.fs_laws.specs.Invariants.{Invariant}
use Rattle.fs_machine.specs.States.{State, Moves, Run}
use Rattle.fs_laws.proofs.states.Headline.{run_keeps}
use Rattle.fs_core_seats.specs.declared.seat.Running.{Running}
use Rattle.fs_core.specs.CoreValues.{CoreValue, state_of}
use Rattle.fs_core_seats.specs.Seats.{records}
use Rattle.fs_core_seats.proofs.SeatLemmas.{AreApart, number_read, records_at}
use Rattle.fs_core.proofs.WorkLemmas.{next_is}

-- states with the same parts
abbrev pub made_of : Start → ℕ → Graph → (ℕ → Option ℕ) → Records → (ℕ → Option ℕ) → List Entry → State
made_of start limit graph holder ops on_seat timeline = record { limit = limit; start = start; graph = graph; holder = holder; ops = ops; on_seat = on_seat; timeline = timeline }

pub same_state : (first : Start) (l m : ℕ) (a b : Graph) (h k : ℕ → Option ℕ) (o p : Records) (s t : ℕ → Option ℕ) (e : List Entry) → l ≡ m → a ≡ b → h ≡ k → o ≡ p → s ≡ t → made_of first l a h o s e ≡ made_of first m b k p t e
same_state first l m a b h k o p s t e f1 f2 f3 f4 f5 =
    ap (λ (x : ℕ). made_of first x a h o s e) f1 ∙ ap (λ (x : Graph). made_of first m x h o s e) f2 ∙ ap (λ (x : ℕ → Option ℕ). made_of first m b x o s e) f3
    ∙ ap (λ (x : Records). made_of first m b k x s e) f4 ∙ ap (λ (x : ℕ → Option ℕ). made_of first m b k p x e) f5

-- in a state of a run, no two seats have a call of one number
pub apart_of : (m : CoreValue) → Run (state_of m) → AreApart m.seats
apart_of m run i j r q e f g =
    let inv : Invariant (state_of m) = run_keeps (state_of m) run in
    let a : (op : Record) × (records m.seats r.call ≡ Some op) × (op.seat ≡ i) = inv.seated i r.call (number_read m.seats i (Some r) e) in
    let b : (op : Record) × (records m.seats q.call ≡ Some op) × (op.seat ≡ j) = inv.seated j q.call (number_read m.seats j (Some q) f) in
    let z : ◌≡◌ {A = Option Record} (Some a.0) (Some b.0) = sym a.1 ∙ ap (records m.seats) g ∙ b.1 in
    let w : a.0 ≡ b.0 = cc in
    sym a.2 ∙ ap (λ (o : Record). o.seat) w ∙ b.2

-- the call on a seat
pub call_on : (m : CoreValue) (seat : ℕ) (r : Running) → Run (state_of m) → slice_get m.seats seat ≡ Some (Some r) → records m.seats r.call ≡ Some (record_of seat r.place r.op)
call_on m seat r run on = records_at m.seats seat r on (apart_of m run)

pub moves : (m : CoreValue) (seat : ℕ) (r : Running) (move : Move) → Run (state_of m) → slice_get m.seats seat ≡ Some (Some r) → next_of (graph_of m.store) r.op ≡ move
    → Moves (state_of m) seat r.call (record_of seat r.place r.op) move
moves m seat r move run on e = (number_read m.seats seat (Some r) on, call_on m seat r run on, next_is (graph_of m.store) seat r.place r.op ∙ e)

-- an unfinished call stays unfinished by a take and by a let go
same_reply : (o p : Option Reply) → phase_of None o ≡ phase_of None p → o ≡ p
same_reply None None e = refl
same_reply None (Some q) e = cc
same_reply (Some r) None e = cc
same_reply (Some r) (Some q) e = let z : r ≡ q = cc in ap (λ (x : Reply). Some x) z

took_phase : (op : Record) (n : ℕ) → (took op n).phase ≡ op.phase
took_phase op n = go op.holdings (target op.remaining)
  where
    go : (s : Option Holdings) (l : Key) → (took_by op s l n).phase ≡ op.phase
    go None l = refl
    go (Some st) [] = refl
    go (Some st) (x ∷ l) = refl

pub took_reply : (old new : OpValue) (n : ℕ) → IsTook old n new → new.reply ≡ old.reply
took_reply old new n t = same_reply new.reply old.reply (ap (λ (o : Record). o.phase) (t 0 None) ∙ took_phase (record_of 0 None old) n)

pub left_reply : (old new : OpValue) (n : ℕ) → IsLetGo old n new → new.reply ≡ old.reply
left_reply old new n t = same_reply new.reply old.reply (ap (λ (o : Record). o.phase) (t 0 None))

pub finished_reply : (graph : Graph) (old new : OpValue) → IsFinished graph old new → (r : Reply) × (new.reply ≡ Some r)
finished_reply graph old new t = let r : Reply = (finish graph (record_of 0 None old)).reply in (r, go new.reply r (ap (λ (o : Record). o.phase) (t 0 None)))
  where
    go : (o : Option Reply) (r : Reply) → phase_of None o ≡ Finished r → o ≡ Some r
    go None r e = cc
    go (Some q) r e = cc

-- the counters after one more entry
pub begins_more : (es : List Entry) (n seat : ℕ) (call : Rattle.fs_calls.specs.declared.call.Call.Call) → begins (es ++ Begin n seat call ∷ []) ≡ begins es + 1
begins_more [] n seat call = refl
begins_more (Begin m s c ∷ es) n seat call = ap (λ (k : ℕ). k + 1) (begins_more es n seat call)
begins_more (Commit m ∷ es) n seat call = begins_more es n seat call
begins_more (Return m r ∷ es) n seat call = begins_more es n seat call

pub begins_commit : (es : List Entry) (n : ℕ) → begins (es ++ Commit n ∷ []) ≡ begins es
begins_commit [] n = refl
begins_commit (Begin m s c ∷ es) n = ap (λ (k : ℕ). k + 1) (begins_commit es n)
begins_commit (Commit m ∷ es) n = begins_commit es n
begins_commit (Return m r ∷ es) n = begins_commit es n

pub begins_return : (es : List Entry) (n : ℕ) (q : Reply) → begins (es ++ Return n q ∷ []) ≡ begins es
begins_return [] n q = refl
begins_return (Begin m s c ∷ es) n q = ap (λ (k : ℕ). k + 1) (begins_return es n q)
begins_return (Commit m ∷ es) n q = begins_return es n q
begins_return (Return m r ∷ es) n q = begins_return es n q

pub commits_begin : (es : List Entry) (n seat : ℕ) (call : Rattle.fs_calls.specs.declared.call.Call.Call) → commit_count (es ++ Begin n seat call ∷ []) ≡ commit_count es
commits_begin [] n seat call = refl
commits_begin (Begin m s c ∷ es) n seat call = commits_begin es n seat call
commits_begin (Commit m ∷ es) n seat call = ap (λ (k : ℕ). k + 1) (commits_begin es n seat call)
commits_begin (Return m r ∷ es) n seat call = commits_begin es n seat call

pub commits_more : (es : List Entry) (n : ℕ) → commit_count (es ++ Commit n ∷ []) ≡ commit_count es + 1
commits_more [] n = refl
commits_more (Begin m s c ∷ es) n = commits_more es n
commits_more (Commit m ∷ es) n = ap (λ (k : ℕ). k + 1) (commits_more es n)
commits_more (Return m r ∷ es) n = commits_more es n

pub commits_return : (es : List Entry) (n : ℕ) (q : Reply) → commit_count (es ++ Return n q ∷ []) ≡ commit_count es
commits_return [] n q = refl
commits_return (Begin m s c ∷ es) n q = commits_return es n q
commits_return (Commit m ∷ es) n q = ap (λ (k : ℕ). k + 1) (commits_return es n q)
commits_return (Return m r ∷ es) n q = commits_return es n q
