-- Where rounds to the end follow, each call of the script began, took its place and returned.
use Rattle.std.proofs.Common.{◌≡◌, ◌≢◌, ℕ, zero, suc, ◌+◌, ◌-◌, ◌^◌, ◌<◌, ◌≤◌, min, ltb, Bool, true, false, List, [], ◌∷◌, ◌++◌, append-nil, append_assoc, length, drop, get_or, replicate, slice_get, slice_set, Option, Some, None, Result, Ok, refl, sym, ap, ◌∙◌, subst, arith}
use Rattle.std.specs.Prelude.{IfSome}
use Rattle.std.specs.List.{list_any}
use Rattle.std.proofs.lemmas.Bool.{ltb-true, ltb-false}
use Rattle.fs_names.specs.Shapes.{Shape}
use Rattle.fs_names.specs.Limits.{node_limit}
use Rattle.fs_names.proofs.LimitLemmas.{some_nodes}
use Rattle.fs_calls.specs.Forms.{reserved_by}
use Rattle.fs_calls.specs.Starts.{Start, root_start}
use Rattle.fs_names.specs.declared.limits.Limits.{Limits}
use Rattle.fs_calls.specs.declared.call.Call.{Call}
use Rattle.fs_nodes.specs.Graphs.{Graph, set_at, empty_graph}
use Rattle.fs_timeline.specs.declared.entry.Entry.{Entry}
use Rattle.fs_timeline.specs.declared.entry.Entry.TheVariants.{Begin, Commit, Return}
use Rattle.fs_machine.specs.Records.{Record}
use Rattle.fs_machine.specs.Headline.{IsIdle}
use Rattle.fs_machine.specs.States.{State, Run, Starting, Begins, Reserves, Step, begun_again, fresh}
use Rattle.fs_machine.specs.declared.answers.Stepped.{Stepped}
use Rattle.fs_machine.specs.declared.answers.Stepped.TheVariants.{Idle, Took, Busy, LetGo, Helped, Committed, CarriedOut, Returned}
use Rattle.fs_laws.proofs.events.OneCallChanged.{Place, Here, Else, place}
use Rattle.fs_laws.proofs.states.GraphOfARun.{call_seat}
use Rattle.fs_laws.proofs.states.StartsEmpty.{starts_empty}
use Rattle.fs_laws.proofs.Again.{timelines_begin_again}
use Rattle.fs_words.specs.declared.fault.ScriptFault.{ScriptFault}
use Rattle.fs_script.specs.declared.script.Script.{Script}
use Rattle.fs_script.specs.declared.script.Word.{Word}
use Rattle.fs_script.specs.declared.script.Word.TheVariants as words
use Rattle.fs_sched.specs.declared.run_texts.EntryKind.{EntryKind}
use Rattle.fs_sched.specs.RunTexts.{number_of}
use Rattle.fs_sched.specs.declared.run_texts.EntryKind.TheVariants as kind
use Rattle.fs_sched.specs.declared.running.RunEnd.{RunEnd}
use Rattle.fs_sched.specs.declared.schedule.Schedule.{Schedule}
use Rattle.fs_sched.specs.declared.schedule.Schedule.TheVariants.{Given, RoundRobin, Seeded, Priorities}
use Rattle.fs_sched.specs.Runs.{Stage, before_all, start, next_call, Event, Goes, Starts, Spent, Events, IsOver, ToEnd, Over, More, EndsBy, Does, Words, Runs, RunsFrom, calls_in, end_of, IsRunOf, IsWhole, HasFinish}
use Rattle.fs_sched.specs.Devices.{IsSameText}
use Rattle.fs_sched.specs.Schedules.{words_by, is_finish, goes_on}
use Rattle.fs_sched.proofs.Tallies.{number_push, number_append, idle_returned, idle_committed, few_returned, few_committed}
use Rattle.fs_sched.proofs.RunLemmas.{known_run}
use Rattle.fs_sched.proofs.Rounds.{cost_of, owed, owed_less, none_some, event_run, event_length, AreSeats}
use Rattle.fs_sched.proofs.Staging.{nothing_more, call_past}

-- ---- one event

-- a step begins no call
step_begins : (s new : State) (seat : ℕ) (answer : Stepped) → Step s seat answer new → number_of kind.Begin new.timeline ≡ number_of kind.Begin s.timeline
step_begins s new seat Idle (off, same) = ap (λ (x : State). number_of kind.Begin x.timeline) same
step_begins s new seat (Busy n d) (c, op, moves, held, same) = ap (λ (x : State). number_of kind.Begin x.timeline) same
step_begins s new seat (Took n) (c, op, moves, free, same) = ap (λ (x : State). number_of kind.Begin x.timeline) same
step_begins s new seat (LetGo n) (c, op, moves, same) = ap (λ (x : State). number_of kind.Begin x.timeline) same
step_begins s new seat (Helped d) (c, op, u, moves, w, pick, q, is, same) =
    let a : number_of kind.Begin new.timeline ≡ number_of kind.Begin s.timeline + 0 = ap (λ (x : State). number_of kind.Begin x.timeline) same ∙ number_push kind.Begin s.timeline (Commit d) in
    omega (arith, a)
step_begins s new seat Committed (c, op, o, moves, w, below, same) =
    let a : number_of kind.Begin new.timeline ≡ number_of kind.Begin s.timeline + 0 = ap (λ (x : State). number_of kind.Begin x.timeline) same ∙ number_push kind.Begin s.timeline (Commit c) in
    omega (arith, a)
step_begins s new seat CarriedOut (c, op, o, i, moves, placed, same) = ap (λ (x : State). number_of kind.Begin x.timeline) same
step_begins s new seat (Returned r) (c, op, moves, ph, same) =
    let a : number_of kind.Begin new.timeline ≡ number_of kind.Begin s.timeline + 0 = ap (λ (x : State). number_of kind.Begin x.timeline) same ∙ number_push kind.Begin s.timeline (Return c r) in
    omega (arith, a)

-- nor is a call on a seat after it that was not there before
step_seats : (s new : State) (seat : ℕ) (answer : Stepped) → Step s seat answer new → (x d : ℕ) → new.on_seat x ≡ Some d → s.on_seat x ≡ Some d
step_seats s new seat Idle (off, same) x d on = sym (ap (λ (u : State). u.on_seat x) same) ∙ on
step_seats s new seat (Busy n e) (c, op, moves, held, same) x d on = sym (ap (λ (u : State). u.on_seat x) same) ∙ on
step_seats s new seat (Took n) (c, op, moves, free, same) x d on = sym (ap (λ (u : State). u.on_seat x) same) ∙ on
step_seats s new seat (LetGo n) (c, op, moves, same) x d on = sym (ap (λ (u : State). u.on_seat x) same) ∙ on
step_seats s new seat (Helped e) (c, op, t, moves, w, pick, q, is, same) x d on = sym (ap (λ (u : State). u.on_seat x) same) ∙ on
step_seats s new seat Committed (c, op, o, moves, w, below, same) x d on = sym (ap (λ (u : State). u.on_seat x) same) ∙ on
step_seats s new seat CarriedOut (c, op, o, i, moves, placed, same) x d on = sym (ap (λ (u : State). u.on_seat x) same) ∙ on
step_seats s new seat (Returned r) (c, op, moves, ph, same) x d on = go (place op.seat None s.on_seat x)
  where
    go : Place (Option ℕ) op.seat None s.on_seat x → s.on_seat x ≡ Some d
    go (Here e j) = absurd (none_some (new.on_seat x) d (ap (λ (u : State). u.on_seat x) same ∙ j) on)
    go (Else n j) = sym j ∙ (sym (ap (λ (u : State). u.on_seat x) same) ∙ on)

-- a begin begins one, on its seat
begin_begins : (s new : State) (seat c : ℕ) (call : Call) → Begins s seat call (Ok c) new → number_of kind.Begin new.timeline ≡ number_of kind.Begin s.timeline + 1
begin_begins s new seat c call (off, number, r) = go (reserved_by call) r
  where
    go : (o : Option Shape) → Reserves s seat call c o new → number_of kind.Begin new.timeline ≡ number_of kind.Begin s.timeline + 1
    go None same = ap (λ (x : State). number_of kind.Begin x.timeline) same ∙ number_push kind.Begin s.timeline (Begin c seat call)
    go (Some shape) (n, less, unused, same) = ap (λ (x : State). number_of kind.Begin x.timeline) same ∙ number_push kind.Begin s.timeline (Begin c seat call)

begin_seats : (s new : State) (seat c : ℕ) (call : Call) → Begins s seat call (Ok c) new → (x : ℕ) → new.on_seat x ≡ set_at seat (Some c) s.on_seat x
begin_seats s new seat c call (off, number, r) x = go (reserved_by call) r
  where
    go : (o : Option Shape) → Reserves s seat call c o new → new.on_seat x ≡ set_at seat (Some c) s.on_seat x
    go None same = ap (λ (u : State). u.on_seat x) same
    go (Some shape) (n, less, unused, same) = ap (λ (u : State). u.on_seat x) same

-- one for each call
abbrev pub one : Call → ℕ
one call = 1

-- what every stage of a script's run keeps: the calls that began, in the pieces before too, and those that are left are all; in the pieces before each that began took its place and returned
pub record ListFacts (lists : List (List Call)) (told : List Entry) (s : Stage) : Type 0 where
  pub run : Run s.state
  pub same : length s.begun ≡ length lists
  pub seats : AreSeats lists s
  pub all : number_of kind.Begin told + number_of kind.Begin s.state.timeline + owed one lists s.begun ≡ calls_in lists
  pub committed : number_of kind.Commit told ≡ number_of kind.Begin told
  pub returned : number_of kind.Return told ≡ number_of kind.Begin told

call_there : (lists : List (List Call)) (s : Stage) (seat : ℕ) (call : Call) → next_call lists s seat ≡ Some call → seat < length lists
call_there lists s seat call is = go (ltb seat (length lists)) refl
  where
    go : (b : Bool) → ltb seat (length lists) ≡ b → seat < length lists
    go true t = ltb-true _ _ t
    go false f = let z : ◌≡◌ {A = Option Call} None (Some call) = sym (call_past lists s seat (omega (arith, ltb-false _ _ f))) ∙ is in cc

pub event_keeps : (lists : List (List Call)) (told : List Entry) (old new : Stage) (seat : ℕ) → Event lists old seat new → ListFacts lists told old → ListFacts lists told new
event_keeps lists told old new seat (Goes c answer on step kept) k =
    let a : number_of kind.Begin new.state.timeline ≡ number_of kind.Begin old.state.timeline = step_begins old.state new.state seat answer step in
    let b : owed one lists new.begun ≡ owed one lists old.begun = ap (owed one lists) kept in
    let d : number_of kind.Begin told + number_of kind.Begin old.state.timeline + owed one lists old.begun ≡ calls_in lists = k.all in
    record {
      run = event_run lists old new seat k.run (Goes c answer on step kept);
      same = ap length kept ∙ k.same;
      seats = λ x e on_x. k.seats x e (step_seats old.state new.state seat answer step x e on_x);
      all = omega (arith, a, b, d);
      committed = k.committed;
      returned = k.returned;
    }
event_keeps lists told old new seat (Starts c call off is begins set) k =
    let a : number_of kind.Begin new.state.timeline ≡ number_of kind.Begin old.state.timeline + 1 = begin_begins old.state new.state seat c call begins in
    let b : owed one lists new.begun ≡ owed one lists (slice_set old.begun seat (get_or old.begun seat 0 + 1)) = ap (owed one lists) set in
    let e : owed one lists (slice_set old.begun seat (get_or old.begun seat 0 + 1)) + 1 ≡ owed one lists old.begun = owed_less one lists old.begun seat (get_or old.begun seat 0 + 1) call k.same (omega arith) is in
    let d : number_of kind.Begin told + number_of kind.Begin old.state.timeline + owed one lists old.begun ≡ calls_in lists = k.all in
    record {
      run = event_run lists old new seat k.run (Starts c call off is begins set);
      same = event_length lists old new seat (Starts c call off is begins set) ∙ k.same;
      seats = λ x f on_x. by x f on_x (place seat (Some c) old.state.on_seat x);
      all = omega (arith, a, b, e, d);
      committed = k.committed;
      returned = k.returned;
    }
  where
    by : (x f : ℕ) → new.state.on_seat x ≡ Some f → Place (Option ℕ) seat (Some c) old.state.on_seat x → x < length lists
    by x f on_x (Here e j) = subst (λ (y : ℕ). y < length lists) (sym e) (call_there lists old seat call is)
    by x f on_x (Else n j) = k.seats x f (sym j ∙ (sym (begin_seats old.state new.state seat c call begins x) ∙ on_x))
event_keeps lists told old new seat (Spent off none e) k = subst (ListFacts lists told) (sym e) k

-- ---- a run

pub events_keep : (lists : List (List Call)) (told : List Entry) (seats : List ℕ) (old new : Stage) → Events lists old seats new → ListFacts lists told old → ListFacts lists told new
events_keep lists told [] old new e k = subst (ListFacts lists told) (sym e) k
events_keep lists told (seat ∷ seats) old new (middle, event, rest) k = events_keep lists told seats middle new rest (event_keeps lists told old middle seat event k)

pub end_keeps : (lists : List (List Call)) (told : List Entry) (old last : Stage) → ToEnd lists old last → ListFacts lists told old → ListFacts lists told last × IsOver lists last
end_keeps lists told old last (Over over) k = (k, over)
end_keeps lists told old last (More {middle} more round rest) k = end_keeps lists told middle last rest (events_keep lists told _ old middle round k)

-- no entries more
pub none_more : (P : List Entry → Type 0) (before told : List Entry) → told ≡ [] → P before → P (before ++ told)
none_more P before told e h = subst P (sym (ap (λ (es : List Entry). before ++ es) e ∙ append-nil before)) h

-- where the timeline begins again, the calls of its piece have all returned
pub again_keeps : (lists : List (List Call)) (told : List Entry) (old : Stage) → IsIdle old.state → ListFacts lists told old → ListFacts lists (told ++ old.state.timeline) (record { state = begun_again old.state; begun = old.begun })
again_keeps lists told old idle k =
    let b : number_of kind.Begin (told ++ old.state.timeline) ≡ number_of kind.Begin told + number_of kind.Begin old.state.timeline = number_append kind.Begin told old.state.timeline in
    let p : number_of kind.Commit (told ++ old.state.timeline) ≡ number_of kind.Commit told + number_of kind.Commit old.state.timeline = number_append kind.Commit told old.state.timeline in
    let r : number_of kind.Return (told ++ old.state.timeline) ≡ number_of kind.Return told + number_of kind.Return old.state.timeline = number_append kind.Return told old.state.timeline in
    let p_old : number_of kind.Commit told ≡ number_of kind.Begin told = k.committed in
    let r_old : number_of kind.Return told ≡ number_of kind.Begin told = k.returned in
    let p_new : number_of kind.Commit old.state.timeline ≡ number_of kind.Begin old.state.timeline = idle_committed old.state k.run idle in
    let r_new : number_of kind.Return old.state.timeline ≡ number_of kind.Begin old.state.timeline = idle_returned old.state k.run idle in
    let d : number_of kind.Begin told + number_of kind.Begin old.state.timeline + owed one lists old.begun ≡ calls_in lists = k.all in
    record {
      run = timelines_begin_again old.state k.run idle;
      same = k.same;
      seats = λ x d on. absurd (none_some None d refl on);
      all = omega (arith, b, d);
      committed = omega (arith, b, p, p_old, p_new);
      returned = omega (arith, b, r, r_old, r_new);
    }

does_keep : (lists : List (List Call)) (before told : List Entry) (old new : Stage) (w : Word) → Does lists old w told new → ListFacts lists before old → ListFacts lists (before ++ told) new
does_keep lists before told old new (words.Events seat times) (events, none) k = none_more (λ es. ListFacts lists es new) before told none (events_keep lists before (replicate times seat) old new events k)
does_keep lists before told old new words.Checkpoint (idle, is, again) k = subst (λ (es : List Entry). ListFacts lists (before ++ es) new) (sym is) (subst (ListFacts lists (before ++ old.state.timeline)) (sym again) (again_keeps lists before old idle k))
does_keep lists before told old new words.Finish (same, none) k = none_more (λ es. ListFacts lists es new) before told none (subst (ListFacts lists before) (sym same) k)
does_keep lists before told old new words.Drawn (same, none) k = none_more (λ es. ListFacts lists es new) before told none (subst (ListFacts lists before) (sym same) k)

pub words_keep : (lists : List (List Call)) (ws : List Word) (before told : List Entry) (old new : Stage) → Words lists old ws told new → ListFacts lists before old → ListFacts lists (before ++ told) new
words_keep lists [] before told old new (same, none) k = none_more (λ es. ListFacts lists es new) before told none (subst (ListFacts lists before) (sym same) k)
words_keep lists (w ∷ ws) before told old new (middle, first, rest, does, after, both) k =
    subst (λ (es : List Entry). ListFacts lists es new) (append_assoc before first rest ∙ ap (λ (es : List Entry). before ++ es) (sym both))
    (words_keep lists ws (before ++ first) rest middle new after (does_keep lists before first old middle w does k))

length_zeros : (n : ℕ) → length {A = ℕ} (replicate n 0) ≡ n
length_zeros zero = refl
length_zeros (suc n) = ap suc (length_zeros n)

cost_all : (calls : List Call) → cost_of one calls ≡ length calls
cost_all [] = refl
cost_all (call ∷ calls) = let h : cost_of one calls ≡ length calls = cost_all calls in omega (arith, h)

owed_all : (lists : List (List Call)) → owed one lists (replicate (length lists) 0) ≡ calls_in lists
owed_all [] = refl
owed_all (calls ∷ lists) =
    let h : owed one lists (replicate (length lists) 0) ≡ calls_in lists = owed_all lists in
    let g : cost_of one calls ≡ length calls = cost_all calls in
    omega (arith, g, h)

pub kept_fresh : (lists : List (List Call)) (limit : ℕ) (first : Start) (graph : Graph) → Run (fresh limit first graph) → ListFacts lists [] (before_all (fresh limit first graph) (length lists))
kept_fresh lists limit first graph run = record {
  run = run;
  same = length_zeros (length lists);
  seats = λ x d on. absurd (none_some None d refl on);
  all = (let h : owed one lists (replicate (length lists) 0) ≡ calls_in lists = owed_all lists in omega (arith, h));
  committed = refl;
  returned = refl;
}

pub kept_start : (limits : Limits) (lists : List (List Call)) → ListFacts lists [] (start limits (length lists))
kept_start limits lists = kept_fresh lists (node_limit limits) (root_start limits) empty_graph (Starting (node_limit limits) (root_start limits) empty_graph (starts_empty limits (node_limit limits) (some_nodes limits)))

-- ---- where it is over

call_spent : (calls : List Call) (n : ℕ) → slice_get calls n ≡ None → cost_of one (drop n calls) ≡ 0
call_spent [] zero e = refl
call_spent [] (suc n) e = refl
call_spent (call ∷ calls) zero e = absurd (let z : ◌≡◌ {A = Option Call} (Some call) None = e in cc)
call_spent (call ∷ calls) (suc n) e = call_spent calls n e

none_owed : (lists : List (List Call)) (begun : List ℕ) → ((seat : ℕ) → seat < length lists → slice_get (get_or lists seat []) (get_or begun seat 0) ≡ None) → owed one lists begun ≡ 0
none_owed [] begun h = refl
none_owed (calls ∷ lists) [] h = refl
none_owed (calls ∷ lists) (n ∷ begun) h =
    let a : cost_of one (drop n calls) ≡ 0 = call_spent calls n (h 0 (omega arith)) in
    let b : owed one lists begun ≡ 0 = none_owed lists begun (λ seat less. h (suc seat) (omega (arith, less))) in
    omega (arith, a, b)

over_idle : (lists : List (List Call)) (told : List Entry) (s : Stage) → ListFacts lists told s → IsOver lists s → IsIdle s.state
over_idle lists told s k over c = go (s.state.ops c) refl
  where
    go : (o : Option Record) → s.state.ops c ≡ o → s.state.ops c ≡ None
    go None e = e
    go (Some op) e =
        let on : s.state.on_seat op.seat ≡ Some c = call_seat s.state c op k.run e in
        let off : (s.state.on_seat op.seat ≡ None) × (next_call lists s op.seat ≡ None) = nothing_more _ _ (over op.seat (k.seats op.seat c on)) in
        absurd (none_some (s.state.on_seat op.seat) c off.0 on)

ends_by : (b : Bool) (lists : List (List Call)) (old last : Stage) → b ≡ true → EndsBy b lists old last → ToEnd lists old last
ends_by true lists old last e h = h
ends_by false lists old last e h = absurd (let z : ◌≡◌ {A = Bool} false true = e in cc)

-- how many entries of each kind there are after rounds to the end
record IsComplete (lists : List (List Call)) (es : List Entry) : Type 0 where
  begun : number_of kind.Begin es ≡ calls_in lists
  committed : number_of kind.Commit es ≡ calls_in lists
  returned : number_of kind.Return es ≡ calls_in lists

complete : (lists : List (List Call)) (told : List Entry) (s : Stage) → ListFacts lists told s → IsOver lists s → IsComplete lists (told ++ s.state.timeline)
complete lists told s k over =
    let z : owed one lists s.begun ≡ 0 = none_owed lists s.begun (λ seat less. (nothing_more _ _ (over seat less)).1) in
    let again : ListFacts lists (told ++ s.state.timeline) (record { state = begun_again s.state; begun = s.begun }) = again_keeps lists told s (over_idle lists told s k over) k in
    let b : number_of kind.Begin (told ++ s.state.timeline) + 0 + owed one lists s.begun ≡ calls_in lists = again.all in
    let r : number_of kind.Return (told ++ s.state.timeline) ≡ number_of kind.Begin (told ++ s.state.timeline) = again.returned in
    let p : number_of kind.Commit (told ++ s.state.timeline) ≡ number_of kind.Begin (told ++ s.state.timeline) = again.committed in
    record { begun = omega (arith, z, b); committed = omega (arith, z, b, p); returned = omega (arith, z, b, r) }

run_keeps : (schedule : Schedule) (script : Script) (old : Stage) (told : List Entry) (middle : Stage) → ListFacts script.lists [] old → Words script.lists old (words_by schedule script.words script.lists) told middle → ListFacts script.lists told middle
run_keeps schedule script old told middle k done = words_keep script.lists (words_by schedule script.words script.lists) [] told old middle done k

ends_keep : (b : Bool) (lists : List (List Call)) (told : List Entry) (old last : Stage) → EndsBy b lists old last → ListFacts lists told old → ListFacts lists told last
ends_keep true lists told old last ends k = (end_keeps lists told old last ends k).0
ends_keep false lists told old last ends k = subst (ListFacts lists told) (sym ends) k

pub last_keeps : (schedule : Schedule) (script : Script) (old : Stage) (told : List Entry) (last : Stage) → ListFacts script.lists [] old → RunsFrom schedule script old told last → ListFacts script.lists told last
last_keeps schedule script old told last k (middle, done, ends) = ends_keep (goes_on schedule script.words) script.lists told middle last ends (run_keeps schedule script old told middle k done)

-- the machine's state is one of a run
pub last_run : (schedule : Schedule) (script : Script) (told : List Entry) (last : Stage) → Runs schedule script told last → Run last.state
last_run schedule script told last runs = (last_keeps schedule script (start script.limits (length script.lists)) told last (kept_start script.limits script.lists) runs).run

-- there are no more entries of a kind than the script has calls
pub few_from : (schedule : Schedule) (script : Script) (old : Stage) (told : List Entry) (last : Stage) → ListFacts script.lists [] old → RunsFrom schedule script old told last → (k : EntryKind) → number_of k (told ++ last.state.timeline) ≤ calls_in script.lists
few_from schedule script old told last first runs k = by k
  where
    kept : ListFacts script.lists told last
    kept = last_keeps schedule script old told last first runs

    all : number_of kind.Begin told + number_of kind.Begin last.state.timeline + owed one script.lists last.begun ≡ calls_in script.lists
    all = kept.all

    by : (k : EntryKind) → number_of k (told ++ last.state.timeline) ≤ calls_in script.lists
    by kind.Begin = let b : number_of kind.Begin (told ++ last.state.timeline) ≡ number_of kind.Begin told + number_of kind.Begin last.state.timeline = number_append kind.Begin told last.state.timeline in omega (arith, b, all)
    by kind.Commit =
        let b : number_of kind.Commit (told ++ last.state.timeline) ≡ number_of kind.Commit told + number_of kind.Commit last.state.timeline = number_append kind.Commit told last.state.timeline in
        let p : number_of kind.Commit told ≡ number_of kind.Begin told = kept.committed in
        let n : number_of kind.Commit last.state.timeline ≤ number_of kind.Begin last.state.timeline = few_committed last.state kept.run in
        omega (arith, b, p, n, all)
    by kind.Return =
        let b : number_of kind.Return (told ++ last.state.timeline) ≡ number_of kind.Return told + number_of kind.Return last.state.timeline = number_append kind.Return told last.state.timeline in
        let r : number_of kind.Return told ≡ number_of kind.Begin told = kept.returned in
        let n : number_of kind.Return last.state.timeline ≤ number_of kind.Begin last.state.timeline = few_returned last.state kept.run in
        omega (arith, b, r, n, all)

pub few_entries : (schedule : Schedule) (script : Script) (told : List Entry) (last : Stage) → Runs schedule script told last → (k : EntryKind) → number_of k (told ++ last.state.timeline) ≤ calls_in script.lists
few_entries schedule script told last runs = few_from schedule script (start script.limits (length script.lists)) told last (kept_start script.limits script.lists) runs

runs_complete : (schedule : Schedule) (script : Script) (old : Stage) (told : List Entry) (last : Stage) → ListFacts script.lists [] old → RunsFrom schedule script old told last → goes_on schedule script.words ≡ true → IsComplete script.lists (told ++ last.state.timeline)
runs_complete schedule script old told last k (middle, done, ends) more =
    let e : ListFacts script.lists told last × IsOver script.lists last = end_keeps script.lists told middle last (ends_by _ script.lists middle last more ends) (run_keeps schedule script old told middle k done) in
    complete script.lists told last e.0 e.1

-- where rounds to the end follow, by the numbers of a run's end
pub whole_end : (schedule : Schedule) (script : Script) (old : Stage) (told : List Entry) (last : Stage) (end : RunEnd) → ListFacts script.lists [] old → RunsFrom schedule script old told last → end ≡ end_of script (told ++ last.state.timeline) → goes_on schedule script.words ≡ true → end.begun < 2 ^ 64 → IsWhole end
whole_end schedule script old told last end k runs is more fits =
    let all : IsComplete script.lists (told ++ last.state.timeline) = runs_complete schedule script old told last k runs more in
    let n : end.calls ≡ min (2 ^ 64 - 1) (calls_in script.lists) = ap (λ (e : RunEnd). e.calls) is in
    let b : end.begun ≡ calls_in script.lists = ap (λ (e : RunEnd). e.begun) is ∙ all.begun in
    let p : end.committed ≡ calls_in script.lists = ap (λ (e : RunEnd). e.committed) is ∙ all.committed in
    let r : end.returned ≡ calls_in script.lists = ap (λ (e : RunEnd). e.returned) is ∙ all.returned in
    record { begun = omega (arith, n, b, fits); committed = omega (arith, n, b, p, fits); returned = omega (arith, n, b, r, fits) }

-- the schedules by which they follow
pub always_goes_on : (schedule : Schedule) (words : List Word) → schedule ≢ Given → goes_on schedule words ≡ true
always_goes_on Given words other = absurd (other refl)
always_goes_on RoundRobin words other = refl
always_goes_on (Seeded n) words other = refl
always_goes_on (Priorities depth n) words other = refl

pub finish_goes_on : (schedule : Schedule) (words : List Word) → list_any is_finish words ≡ true → goes_on schedule words ≡ true
finish_goes_on Given words has = has
finish_goes_on RoundRobin words has = refl
finish_goes_on (Seeded n) words has = refl
finish_goes_on (Priorities depth n) words has = refl

pub whole_always : (schedule : Schedule) (text : List ℕ) (end : RunEnd) (out : List ℕ) → IsRunOf schedule text end out → end.begun < 2 ^ 64 → schedule ≢ Given → IsWhole end
whole_always schedule text end out (script, is, (told, last, runs, (ended, spelled))) fits other = whole_end schedule script (start script.limits (length script.lists)) told last end (kept_start script.limits script.lists) runs ended (always_goes_on schedule script.words other) fits

whole_finish : (schedule : Schedule) (text : List ℕ) (end : RunEnd) (out : List ℕ) → IsRunOf schedule text end out → end.begun < 2 ^ 64 → HasFinish text → IsWhole end
whole_finish schedule text end out (script, is, (told, last, runs, (ended, spelled))) fits (other, is_other, has) =
    let z : ◌≡◌ {A = Result Script ScriptFault} (Ok other) (Ok script) = sym is_other ∙ is in
    let y : other ≡ script = cc in
    whole_end schedule script (start script.limits (length script.lists)) told last end (kept_start script.limits script.lists) runs ended (finish_goes_on schedule script.words (subst (λ (s : Script). list_any is_finish s.words ≡ true) y has)) fits

pub known_whole : (r : Option (List ℕ)) (text items out : List ℕ) (schedule : Schedule) (end : RunEnd) → text ≡ items → IfSome r (IsSameText items) → IsRunOf schedule text end out → end.begun < 2 ^ 64 → IfSome r (λ input. HasFinish input → IsWhole end)
known_whole None text items out schedule end e s h fits = tt
known_whole (Some input) text items out schedule end e s h fits = whole_finish schedule input end out (known_run (Some input) text items out schedule end e s h) fits
