-- The machine computed: in each state of a run the step that is computed is the step, and so runs are computed.
use Rattle.std.proofs.Common.{◌≡◌, ℕ, zero, suc, ◌+◌, ◌<◌, Bool, true, false, cond, not, ◌&&◌, List, [], ◌∷◌, ◌++◌, Option, Some, None, is_some, refl, sym, ap, ap₂, ◌∙◌, append_assoc, append-nil, arith, inl, inr, Ok}
use Rattle.std.specs.Prelude.{nat_lt}
use Rattle.std.proofs.lemmas.Bool.Decides.{nat_tests}
use Rattle.fs_names.specs.Keys.{Key, last_of}
use Rattle.fs_names.specs.Shapes.{Shape}
use Rattle.fs_calls.specs.Forms.{Form, AtNode, AtEntry, AtPair, by_paths, reserved_by}
use Rattle.fs_calls.specs.declared.call.Call.{Call}
use Rattle.fs_calls.specs.declared.reply.Reply.{Reply}
use Rattle.fs_calls.specs.Starts.{root_start}
use Rattle.fs_names.specs.declared.limits.Limits.TheVariants.{V1}
use Rattle.fs_calls.specs.Graphs.{Graph, empty_graph, numbers, reserved_in}
use Rattle.fs_machine.specs.Moves.{next, next_by}
use Rattle.fs_machine.specs.declared.moves.Move.{Move}
use Rattle.fs_machine.specs.declared.moves.Move.TheVariants.{Take as Takes, LetGo as Leaves, Finish as Finishes, Return as Ends}
use Rattle.fs_machine.specs.declared.moves.Moved.{Moved}
use Rattle.fs_machine.specs.declared.moves.Moved.TheVariants.{Nothing, One, Two}
use Rattle.fs_machine.specs.Records.{Holdings, Phase, Walking, Placed, Finished, Record, Side, Source, Dest, of_side, head_on}
use Rattle.fs_timeline.specs.Timeline.{begins}
use Rattle.fs_laws.specs.Events.{Event, Begins, Steps, events_of, Ran}
use Rattle.fs_laws.specs.Invariants.{Invariant}
use Rattle.fs_machine.specs.States as machine
use Rattle.fs_machine.specs.States.{State, IsMoved, empty, began, Reserves, Moves, Step, taking, letting_go, helping, carrying, committing, returning, Run, Starting, Beginning, Stepping}
use Rattle.fs_machine.specs.declared.answers.Stepped.{Stepped}
use Rattle.fs_machine.specs.declared.answers.Stepped.TheVariants.{Idle, Took, Busy, LetGo, Helped, Committed, CarriedOut, Returned}
use Rattle.fs_laws.proofs.states.StartsEmpty.{starts_empty}
use Rattle.fs_laws.proofs.states.ComputedSteps.{by_ends, by_finishes}
use Rattle.fs_laws.proofs.helping.WhomToHelp.{IsOneOf, AreKeys, whom, IsRight, whom_is}
use Rattle.fs_laws.proofs.helping.NobodyEnters.{moved_on, ToMove, to_move}
use Rattle.fs_laws.proofs.states.Headline.{run_keeps}
use Rattle.fs_laws.proofs.graphs.Walks.{at_child}

-- the key of the node that a call would move at the end of one of its paths
abbrev path_of : Side → Form → Key
path_of side (AtNode c p) = p
path_of side (AtEntry c p) = p
path_of side (AtPair c p q) = of_side side p q

abbrev head_walked : Side → Option Holdings → Key
head_walked side None = []
head_walked side (Some st) = (head_on side st).walked

abbrev moved_key : Side → Record → Key
moved_key side op = op.walked ++ head_walked side op.holdings ++ last_of (path_of side op.remaining) ∷ []

-- the keys of the nodes that a finish would move
abbrev moved_keys : Record → Moved → List Key
moved_keys op Nothing = []
moved_keys op (One n) = moved_key Source op ∷ []
moved_keys op (Two n m) = moved_key Source op ∷ moved_key Dest op ∷ []

abbrev to_help : State → Record → Moved → Option ℕ
to_help old op moved = whom old.ops (moved_keys op moved) (begins old.timeline)

-- the step
abbrev take_by : State → ℕ → Record → ℕ → Option ℕ → Stepped × State
take_by old c op n None = (Took n, taking old c op n)
take_by old c op n (Some d) = (Busy n d, old)

abbrev help_by : State → ℕ → Option Record → Stepped × State
help_by old d None = (Idle, old)
help_by old d (Some q) = (Helped d, helping old d q)

abbrev finish_by : State → ℕ → Record → Phase → Option ℕ → Stepped × State
finish_by old c op Walking None = (Committed, committing old c op)
finish_by old c op Walking (Some d) = help_by old d (old.ops d)
finish_by old c op (Placed i) d = (CarriedOut, carrying old c op)
finish_by old c op (Finished r) d = (Idle, old)

abbrev end_by : State → ℕ → Record → Phase → Stepped × State
end_by old c op (Finished r) = (Returned r, returning old c op r)
end_by old c op Walking = (Idle, old)
end_by old c op (Placed i) = (Idle, old)

abbrev move_by : State → ℕ → Record → Move → Stepped × State
move_by old c op (Takes n) = take_by old c op n (old.holder n)
move_by old c op (Leaves n) = (LetGo n, letting_go old c op n)
move_by old c op (Finishes moved) = finish_by old c op op.phase (to_help old op moved)
move_by old c op Ends = end_by old c op op.phase

abbrev op_by : State → ℕ → Option Record → Stepped × State
op_by old c None = (Idle, old)
op_by old c (Some op) = move_by old c op (next old.graph op)

abbrev seat_by : State → Option ℕ → Stepped × State
seat_by old None = (Idle, old)
seat_by old (Some c) = op_by old c (old.ops c)

abbrev stepped : State → ℕ → Stepped × State
stepped old seat = seat_by old (old.on_seat seat)

-- a call moves the node at that key
at_moved : (s : State) → Run s → (c : ℕ) (op : Record) (o : Moved) (side : Side) (n : ℕ) → s.ops c ≡ Some op → op.phase ≡ Walking → next s.graph op ≡ Finishes o → moved_on o side ≡ Some n → numbers s.graph (moved_key side op) ≡ Some n
at_moved s run c op o side n is walks m one = ap (numbers s.graph) same ∙ at_child s.graph.child 0 (head_on side t.st).node (inv.key c ++ (head_on side t.st).walked) (last_of (of_side side t.p t.q)) ((inv.kept.each c op t.st is t.on).located.head side) ∙ t.child
  where
    inv : Invariant s
    inv = run_keeps s run

    t : ToMove s.graph op side n
    t = to_move s.graph op o side n m one

    same : moved_key side op ≡ inv.key c ++ (head_on side t.st).walked ++ last_of (of_side side t.p t.q) ∷ []
    same =
        ap (λ (k : Key). k ++ head_walked side op.holdings ++ last_of (path_of side op.remaining) ∷ []) (sym ((inv.kept.each c op t.st is t.on).walking walks))
        ∙ ap₂ (λ (o : Option Holdings) (f : Form). inv.key c ++ head_walked side o ++ last_of (path_of side f) ∷ []) t.on t.remaining

are_keys : (s : State) (op : Record) (o : Moved) → ((side : Side) (n : ℕ) → moved_on o side ≡ Some n → numbers s.graph (moved_key side op) ≡ Some n) → AreKeys s (moved_keys op o) o
are_keys s op Nothing at_key = record { each = λ k i. absurd i; all = λ n i. absurd i }
are_keys s op (One n) at_key = record { each = each; all = λ q i. (moved_key Source op, inl refl, at_key Source q (ap Some (sym i))) }
  where
    each : (k : Key) → IsOneOf k (moved_key Source op ∷ []) → (q : ℕ) × IsMoved (One n) q × (numbers s.graph k ≡ Some q)
    each k (inl i) = (n, refl, ap (numbers s.graph) i ∙ at_key Source n refl)
    each k (inr i) = absurd i
are_keys s op (Two n p) at_key = record { each = each; all = all }
  where
    each : (k : Key) → IsOneOf k (moved_key Source op ∷ moved_key Dest op ∷ []) → (q : ℕ) × IsMoved (Two n p) q × (numbers s.graph k ≡ Some q)
    each k (inl i) = (n, inl refl, ap (numbers s.graph) i ∙ at_key Source n refl)
    each k (inr (inl i)) = (p, inr refl, ap (numbers s.graph) i ∙ at_key Dest p refl)
    each k (inr (inr i)) = absurd i

    all : (q : ℕ) → IsMoved (Two n p) q → (k : Key) × IsOneOf k (moved_key Source op ∷ moved_key Dest op ∷ []) × (numbers s.graph k ≡ Some q)
    all q (inl i) = (moved_key Source op, inl refl, at_key Source q (ap Some (sym i)))
    all q (inr i) = (moved_key Dest op, inr (inl refl), at_key Dest q (ap Some (sym i)))

pub stepped_is : (old : State) → Run old → (seat : ℕ) → Step old seat (stepped old seat).0 (stepped old seat).1
stepped_is old run seat = on_it (old.on_seat seat) refl
  where
    helps : (c : ℕ) (op : Record) (n : Moved) (d : ℕ) → Moves old seat c op (Finishes n) → op.phase ≡ Walking → IsRight old n (Some d) → (o : Option Record) → old.ops d ≡ o → Step old seat (help_by old d o).0 (help_by old d o).1
    helps c op n d m w (((p, one, (q, is_q, q_walks, below)), lowest), least) None i = let z : ◌≡◌ {A = Option Record} None (Some q) = sym i ∙ is_q in cc
    helps c op n d m w r (Some q) i = (c, op, n, m, w, r, q, i, refl)

    moves : (c : ℕ) (op : Record) (n : Moved) (o : Option ℕ) → Moves old seat c op (Finishes n) → op.phase ≡ Walking → IsRight old n o → Step old seat (finish_by old c op Walking o).0 (finish_by old c op Walking o).1
    moves c op n None m w r = (c, op, n, m, w, r, refl)
    moves c op n (Some d) m w r = helps c op n d m w r (old.ops d) refl

    walking : (c : ℕ) (op : Record) (o : Moved) → Moves old seat c op (Finishes o) → op.phase ≡ Walking → Step old seat (finish_by old c op Walking (to_help old op o)).0 (finish_by old c op Walking (to_help old op o)).1
    walking c op o m w = moves c op o (to_help old op o) m w (whom_is old run (moved_keys op o) o (are_keys old op o (λ side n on. at_moved old run c op o side n m.1 w m.2 on)))

    finishing : (c : ℕ) (op : Record) (o : Moved) (phase : Phase) → op.phase ≡ phase → Moves old seat c op (Finishes o) → Step old seat (finish_by old c op phase (to_help old op o)).0 (finish_by old c op phase (to_help old op o)).1
    finishing c op o Walking w m = walking c op o m w
    finishing c op o (Placed i) w m = (c, op, o, i, m, w, refl)
    finishing c op o (Finished r) w m = absurd (by_finishes old.graph op (by_paths op.call) r op.holdings o (ap (λ (p : Phase). next_by old.graph op (by_paths op.call) p op.holdings) (sym w) ∙ m.2))

    ending : (c : ℕ) (op : Record) (phase : Phase) (r : Reply) → op.phase ≡ phase → phase ≡ Finished r → Moves old seat c op Ends → Step old seat (end_by old c op phase).0 (end_by old c op phase).1
    ending c op (Finished q) r w i m = (c, op, m, w, refl)
    ending c op Walking r w i m = cc
    ending c op (Placed j) r w i m = cc

    takes : (c : ℕ) (op : Record) (n : ℕ) (h : Option ℕ) → old.holder n ≡ h → Moves old seat c op (Takes n) → Step old seat (take_by old c op n h).0 (take_by old c op n h).1
    takes c op n None i m = (c, op, m, i, refl)
    takes c op n (Some d) i m = (c, op, m, i, refl)

    moving : (c : ℕ) (op : Record) (m : Move) → Moves old seat c op m → Step old seat (move_by old c op m).0 (move_by old c op m).1
    moving c op (Takes n) m = takes c op n (old.holder n) refl m
    moving c op (Leaves n) m = (c, op, m, refl)
    moving c op (Finishes o) m = finishing c op o op.phase refl m
    moving c op Ends m = let r : (r : Reply) × (op.phase ≡ Finished r) = by_ends old.graph op (by_paths op.call) op.phase op.holdings m.2 in ending c op op.phase r.0 refl r.1 m

    under_way : (c : ℕ) (o : Option Record) → old.on_seat seat ≡ Some c → old.ops c ≡ o → Step old seat (op_by old c o).0 (op_by old c o).1
    under_way c None e f = let s : (op : Record) × (old.ops c ≡ Some op) × (op.seat ≡ seat) = (run_keeps old run).seated seat c e in let z : ◌≡◌ {A = Option Record} None (Some s.0) = sym f ∙ s.1 in cc
    under_way c (Some op) e f = moving c op (next old.graph op) (e, f, refl)

    on_it : (o : Option ℕ) → old.on_seat seat ≡ o → Step old seat (seat_by old o).0 (seat_by old o).1
    on_it None e = (e, refl)
    on_it (Some c) e = under_way c (old.ops c) e refl

-- a begin with ample memory: the first number that is not in use is reserved (of so many looked at)
abbrev free_from : ℕ → Graph → ℕ → ℕ
free_from zero graph n = n
free_from (suc f) graph n = cond (is_some (graph.shape n)) (free_from f graph (suc n)) n

abbrev free : State → ℕ
free old = free_from (begins old.timeline + 1) old.graph 0

abbrev reserve_by : State → ℕ → Call → Option Shape → State
reserve_by old seat call None = began old seat call (begins old.timeline + 1) None old.graph
reserve_by old seat call (Some shape) = began old seat call (begins old.timeline + 1) (Some (free old)) (reserved_in (free old) shape old.graph)

abbrev beginning : State → ℕ → Call → State
beginning old seat call = reserve_by old seat call (reserved_by call)

-- where the seat is free, and so is the number if one is wanted
abbrev has_free : State → Option Shape → Bool
has_free old None = true
has_free old (Some shape) = not (is_some (old.graph.shape (free old))) && nat_lt (free old) old.limit

abbrev can_begin : State → ℕ → Call → Bool
can_begin old seat call = not (is_some (old.on_seat seat)) && has_free old (reserved_by call)

is_none : {A : Type 0} (o : Option A) → not (is_some o) ≡ true → o ≡ None
is_none None e = refl
is_none (Some a) e = cc

both : (a b : Bool) → (a && b) ≡ true → (a ≡ true) × (b ≡ true)
both true b e = (refl, e)
both false b e = cc

beginning_is : (old : State) (seat : ℕ) (call : Call) → can_begin old seat call ≡ true → machine.Begins old seat call (Ok (begins old.timeline + 1)) (beginning old seat call)
beginning_is old seat call e = (is_none (old.on_seat seat) p.0, refl, go (reserved_by call) p.1)
  where
    p : (not (is_some (old.on_seat seat)) ≡ true) × (has_free old (reserved_by call) ≡ true)
    p = both (not (is_some (old.on_seat seat))) (has_free old (reserved_by call)) e

    less : (a b : ℕ) → nat_lt a b ≡ true → a < b
    less a b i = grind (arith, nat_tests)

    go : (o : Option Shape) → has_free old o ≡ true → Reserves old seat call (begins old.timeline + 1) o (reserve_by old seat call o)
    go None i = refl
    go (Some shape) i =
        let q : (not (is_some (old.graph.shape (free old))) ≡ true) × (nat_lt (free old) old.limit ≡ true) = both (not (is_some (old.graph.shape (free old)))) (nat_lt (free old) old.limit) i in
        (free old, less (free old) old.limit q.1, is_none (old.graph.shape (free old)) q.0, refl)

-- the state after some events, whether its begins can be, and the events with the answers that are computed
abbrev pub after : State → List Event → State
after s [] = s
after s (Begins seat call answer ∷ es) = after (beginning s seat call) es
after s (Steps seat answer ∷ es) = after (stepped s seat).1 es

abbrev pub can_be : State → List Event → Bool
can_be s [] = true
can_be s (Begins seat call answer ∷ es) = can_begin s seat call && can_be (beginning s seat call) es
can_be s (Steps seat answer ∷ es) = can_be (stepped s seat).1 es

abbrev pub told : State → List Event → List Event
told s [] = []
told s (Begins seat call answer ∷ es) = Begins seat call (Ok (begins s.timeline + 1)) ∷ told (beginning s seat call) es
told s (Steps seat answer ∷ es) = Steps seat (stepped s seat).0 ∷ told (stepped s seat).1 es

played : (s : State) (run : Run s) (es : List Event) → can_be s es ≡ true → (later : Run (after s es)) × (events_of (after s es) later ≡ events_of s run ++ told s es)
played s run [] e = (run, sym (append-nil (events_of s run)))
played s run (Begins seat call answer ∷ es) e =
    let p : (can_begin s seat call ≡ true) × (can_be (beginning s seat call) es ≡ true) = both (can_begin s seat call) (can_be (beginning s seat call) es) e in
    let now : Run (beginning s seat call) = Beginning seat call (Ok (begins s.timeline + 1)) (beginning s seat call) run (beginning_is s seat call p.0) in
    let r : (later : Run (after (beginning s seat call) es)) × (events_of (after (beginning s seat call) es) later ≡ events_of (beginning s seat call) now ++ told (beginning s seat call) es) = played (beginning s seat call) now es p.1 in
    (r.0, r.1 ∙ append_assoc (events_of s run) (Begins seat call (Ok (begins s.timeline + 1)) ∷ []) (told (beginning s seat call) es))
played s run (Steps seat answer ∷ es) e =
    let now : Run (stepped s seat).1 = Stepping seat (stepped s seat).0 (stepped s seat).1 run (stepped_is s run seat) in
    let r : (later : Run (after (stepped s seat).1 es)) × (events_of (after (stepped s seat).1 es) later ≡ events_of (stepped s seat).1 now ++ told (stepped s seat).1 es) = played (stepped s seat).1 now es e in
    (r.0, r.1 ∙ append_assoc (events_of s run) (Steps seat (stepped s seat).0 ∷ []) (told (stepped s seat).1 es))

-- before anything began, by the first limits, with as many numbers as there may be
abbrev pub start : State
start = empty V1 1048576

pub is_run : (es : List Event) → can_be start es ≡ true → told start es ≡ es → (run : Run (after start es)) × (events_of (after start es) run ≡ es)
is_run es can is =
    let r : (later : Run (after start es)) × (events_of (after start es) later ≡ told start es) = played start (Starting 1048576 (root_start V1) empty_graph (starts_empty V1 1048576 (omega arith))) es can in
    (r.0, r.1 ∙ is)

-- the run of some events, where they and their answers are the computed ones
abbrev pub ran : (es : List Event) → can_be start es ≡ true → told start es ≡ es → (after start es).limit ≡ 1048576 → (after start es).start ≡ root_start V1 → Ran es
ran es can is limit tree = record { state = after start es; run = (is_run es can is).0; events = (is_run es can is).1; limit = limit; start = tree }
