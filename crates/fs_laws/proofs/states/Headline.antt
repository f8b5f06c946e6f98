-- What every state of a run keeps, and the headline from it.
use Rattle.std.proofs.Common.{◌≡◌, ℕ, List, [], ◌∷◌, Option, Some, None, refl, sym, ap, ◌∙◌, subst, Ok, Err}
use Rattle.fs_calls.specs.Sights.{tree_shapes}
use Rattle.fs_calls.specs.Starts.{Start}
use Rattle.fs_laws.specs.Changes.{play}
use Rattle.fs_calls.specs.declared.call.Call.{Call}
use Rattle.fs_calls.specs.Graphs.{Graph, graph_shapes}
use Rattle.fs_timeline.specs.declared.entry.Entry.{Entry}
use Rattle.fs_timeline.specs.declared.entry.Entry.TheVariants.{Begin, Commit, Return}
use Rattle.fs_machine.specs.Records.{Record, Records}
use Rattle.fs_laws.specs.JournalViews.{IsLawful, commits_of, with_call, JournalView, start, noted, commit_of, view_after}
use Rattle.fs_machine.specs.Headline.{IsIdle}
use Rattle.fs_laws.specs.Invariants.{Invariant, StepKeeps, BeginKeeps, spots, IsPlaced, InOrder}
use Rattle.fs_laws.specs.Settled.{settle}
use Rattle.fs_machine.specs.States.{State, fresh, IsStart, Begun, Run, Starting, Beginning, Stepping}
use Rattle.fs_machine.specs.declared.answers.Refusal.TheVariants.{SeatBusy, Full, OutOfMemory}
use Rattle.fs_machine.specs.declared.answers.Stepped.{Stepped}
use Rattle.fs_machine.specs.declared.answers.Stepped.TheVariants.{Idle, Took, Busy, LetGo, Helped, Committed, CarriedOut, Returned}
use Rattle.fs_laws.proofs.events.Help.{keeps_helped}
use Rattle.fs_laws.proofs.events.Commit.{keeps_committed}
use Rattle.fs_laws.proofs.events.CarryOut.{keeps_carried}
use Rattle.fs_laws.proofs.calls.TakesAtTarget.{keeps_took}
use Rattle.fs_laws.proofs.events.LetGo.{keeps_let_go}
use Rattle.fs_laws.proofs.events.Return.{keeps_returned}
use Rattle.fs_laws.proofs.events.Begin.{keeps_begun}

-- by the view: the timeline is well formed and each returned reply is the sequential tree's; where no call is under way, the nodes spell that tree
pub record Headline (state : State) : Type 0 where
  pub lawful : IsLawful (start state.start) state.timeline
  pub spelled : IsIdle state → graph_shapes state.graph ≡ play state.start.limits (tree_shapes state.start.tree) (commits_of (start state.start).call state.timeline)

-- the tree of the view is what the calls of the Commit entries make
with_played : (o : Option Call) (view : JournalView) (n : ℕ) (calls : List Call) → play (commit_of view n o).limits (commit_of view n o).tree calls ≡ play view.limits view.tree (with_call o calls)
with_played None view n calls = refl
with_played (Some call) view n calls = refl

same_call : (o : Option Call) (view : JournalView) (n : ℕ) → (commit_of view n o).call ≡ view.call
same_call None view n = refl
same_call (Some call) view n = refl

pub view_plays : (view : JournalView) (es : List Entry) → (view_after view es).tree ≡ play view.limits view.tree (commits_of view.call es)
view_plays view [] = refl
view_plays view (Begin n seat call ∷ es) = view_plays (noted view (Begin n seat call)) es
view_plays view (Commit n ∷ es) =
    view_plays (commit_of view n (view.call n)) es
    ∙ ap (λ (c : ℕ → Option Call). play (commit_of view n (view.call n)).limits (commit_of view n (view.call n)).tree (commits_of c es)) (same_call (view.call n) view n)
    ∙ with_played (view.call n) view n (commits_of view.call es)
view_plays view (Return n r ∷ es) = view_plays (noted view (Return n r)) es

idle_order : (ops : Records) (order : List ℕ) → InOrder ops order → ((c : ℕ) → ops c ≡ None) → order ≡ []
idle_order ops [] o idle = refl
idle_order ops (c ∷ cs) o idle = let p : IsPlaced ops c = o.0 in let z : ◌≡◌ {A = Option Record} None (Some p.op) = sym (idle c) ∙ p.is in cc

-- the headline
pub headline_of : (s : State) → Invariant s → Headline s
headline_of s inv = record {
  lawful = inv.lawful;
  spelled = λ idle.
      ap (λ (cs : List ℕ). settle (graph_shapes s.graph) (spots s.ops inv.key cs)) (sym (idle_order s.ops inv.order inv.in_order idle))
      ∙ inv.tied.played
      ∙ view_plays (start s.start) s.timeline;
}

-- where a timeline begins
pub inv_start : (limit : ℕ) (tree : Start) (graph : Graph) → IsStart limit tree graph → Invariant (fresh limit tree graph)
inv_start limit tree graph h = record {
  key = λ c. [];
  order = [];
  is_graph = h.is_graph;
  kept = record { one_key = h.is_graph.one_key; each = λ c op st e. cc; pairs = λ c d p q st other n e. cc };
  in_order = tt;
  all_placed = λ c op i e. cc;
  lawful = tt;
  tied = record { played = h.spelled; dues = tt; fixed = λ c op r e. cc; fresh = λ c op e. cc; calls = λ c op e. cc };
  own = λ c op e. cc;
  held = λ c op st n e. cc;
  apart = λ c d n p q differs e. cc;
  seated = λ seat c e. cc;
  busy = λ seat. refl;
  seat_of = λ c op e. cc;
  fresh = λ c less. refl;
}

pub keeps_idle : StepKeeps Idle
keeps_idle old new seat inv st = subst Invariant (sym st.1) inv

pub keeps_busy : (n d : ℕ) → StepKeeps (Busy n d)
keeps_busy n d old new seat inv (c, op, m, h, same_name) = subst Invariant (sym same_name) inv

pub keeps_seat_busy : BeginKeeps (Err SeatBusy)
keeps_seat_busy old new seat call inv (c, on, same_name) = subst Invariant (sym same_name) inv

pub keeps_full : BeginKeeps (Err Full)
keeps_full old new seat call inv (on, full, same_name) = subst Invariant (sym same_name) inv

pub keeps_no_memory : BeginKeeps (Err OutOfMemory)
keeps_no_memory old new seat call inv (on, full, same_name) = subst Invariant (sym same_name) inv

-- each step and each begin keeps it
pub step_keeps : (answer : Stepped) → StepKeeps answer
step_keeps Idle = keeps_idle
step_keeps (Took n) = keeps_took n
step_keeps (Busy n d) = keeps_busy n d
step_keeps (LetGo n) = keeps_let_go n
step_keeps (Helped d) = keeps_helped d
step_keeps Committed = keeps_committed
step_keeps CarriedOut = keeps_carried
step_keeps (Returned r) = keeps_returned r

pub begin_keeps : (answer : Begun) → BeginKeeps answer
begin_keeps (Ok c) = keeps_begun c
begin_keeps (Err SeatBusy) = keeps_seat_busy
begin_keeps (Err Full) = keeps_full
begin_keeps (Err OutOfMemory) = keeps_no_memory

-- every state of a run keeps it
pub run_keeps : (s : State) → Run s → Invariant s
run_keeps s (Starting limit tree graph h) = inv_start limit tree graph h
run_keeps s (Beginning {old} seat call answer new run b) = begin_keeps answer old new seat call (run_keeps old run) b
run_keeps s (Stepping {old} seat answer new run st) = step_keeps answer old new seat (run_keeps old run) st

-- the linearization theorem
pub headline_of_runs : (s : State) → Run s → Headline s
headline_of_runs s run = headline_of s (run_keeps s run)
