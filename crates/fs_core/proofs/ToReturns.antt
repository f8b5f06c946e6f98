-- Steps of one seat up to its return, or up to a node that another call holds.
use Rattle.std.proofs.Common.{◌≡◌, ℕ, ◌+◌, ◌<◌, ◌≤◌, Bool, true, false, Option, Some, None, Ok, IsSome, is_some, refl, sym, ap, ◌∙◌, subst, arith}
use Rattle.fs_names.specs.Shapes.{Shape}
use Rattle.fs_calls.specs.Forms.{reserved_by}
use Rattle.fs_calls.specs.declared.call.Call.{Call}
use Rattle.fs_calls.specs.declared.reply.Reply.{Reply}
use Rattle.fs_nodes.specs.Graphs.{set_at}
use Rattle.fs_laws.specs.OneCall.{IsNoReturn, StepsTo, Goes_on}
use Rattle.fs_laws.specs.Progress.{GoesOn, SomebodyGoesOn}
use Rattle.fs_machine.specs.Records.{Record}
use Rattle.fs_machine.specs.States.{State, Begins, Reserves, Run, Step}
use Rattle.fs_machine.specs.declared.answers.Stepped.{Stepped}
use Rattle.fs_machine.specs.declared.answers.Stepped.TheVariants.{Idle, Took, Busy, LetGo, Helped, Committed, CarriedOut, Returned}
use Rattle.fs_machine.proofs.StepsAreDetermined.{one_step}
use Rattle.fs_laws.specs.StepsLeft.{steps_left}
use Rattle.fs_laws.proofs.states.Headline.{run_keeps}
use Rattle.fs_laws.proofs.states.StepsTakeWork.{takes_work}
use Rattle.fs_laws.proofs.states.Waiters.{never_stuck}
use Rattle.fs_laws.proofs.events.Help.{upd_here, upd_else}
use Rattle.fs_machine.specs.declared.answers.Stepped.{Stepped as Answer}
use Rattle.fs_machine.specs.declared.answers.Stepped.TheVariants as answers
use Rattle.fs_core.specs.Calls.{Steps, Still, Then, IsWaiting}

-- steps before those up to a return are steps up to it
pub steps_to : (seat : ℕ) (r : Reply) (new : State) {old middle : State} → Steps seat old middle → StepsTo seat r new middle → StepsTo seat r new old
steps_to seat r new Still rest = rest
steps_to seat r new (Then answer on before step) rest = steps_to seat r new before (Goes_on answer _ on step rest)

-- a step that waits changes nothing, and the next one would wait too
pub waits : (seat node holder : ℕ) (first old new : State) → Steps seat first old → Step old seat (Busy node holder) new → Steps seat first new × IsWaiting new seat holder
waits seat node holder first old new before step =
    let same : old ≡ new = sym step.4 in
    (subst (λ (s : State). Steps seat first s) same before, (node, subst (λ (s : State). Step s seat (Busy node holder) s) same (step.0, step.1, step.2, step.3, refl)))

-- a step that does not return leaves each seat's call on it
pub keeps : (seat other : ℕ) (answer : Stepped) (old new : State) → IsNoReturn answer → Step old seat answer new → new.on_seat other ≡ old.on_seat other
keeps seat other Idle old new on step = ap (λ (s : State). s.on_seat other) step.1
keeps seat other (Took n) old new on step = ap (λ (s : State). s.on_seat other) step.4
keeps seat other (Busy n d) old new on step = ap (λ (s : State). s.on_seat other) step.4
keeps seat other (LetGo n) old new on step = ap (λ (s : State). s.on_seat other) step.3
keeps seat other (Helped d) old new on step = ap (λ (s : State). s.on_seat other) step.8
keeps seat other Committed old new on step = ap (λ (s : State). s.on_seat other) step.6
keeps seat other CarriedOut old new on step = ap (λ (s : State). s.on_seat other) step.6
keeps seat other (Returned r) old new on step = absurd on

-- and so do steps of a seat of which none returns
pub all_keep : (seat other : ℕ) {old new : State} → Steps seat old new → new.on_seat other ≡ old.on_seat other
all_keep seat other Still = refl
all_keep seat other (Then {middle = middle} {new = new} answer on before step) = keeps seat other answer middle new on step ∙ all_keep seat other before

-- a step by which a call went on leaves less to do
pub less : (seat : ℕ) (answer : Stepped) (old new : State) → Run old → GoesOn answer → Step old seat answer new → steps_left new < steps_left old
less seat answer old new run goes step = let w : steps_left new + 1 ≤ steps_left old = takes_work old run seat answer new step goes in omega (arith, w)

-- ---- what the core answered

-- an answer that is no return
pub no_return : (answer : Answer) → ((r : Reply) → answer ≡ answers.Returned r → ⊥) → IsNoReturn answer
no_return answers.Idle ends = tt
no_return (answers.Took n) ends = tt
no_return (answers.Busy n d) ends = tt
no_return (answers.LetGo n) ends = tt
no_return (answers.Helped d) ends = tt
no_return answers.Committed ends = tt
no_return answers.CarriedOut ends = tt
no_return (answers.Returned r) ends = ends r refl

-- a step of a seat with a call under way, which does not wait and does not return, goes on with the call
pub goes : (seat : ℕ) (answer : Answer) (old new : State) → IsSome (old.on_seat seat) → Step old seat answer new
    → ((n d : ℕ) → answer ≡ answers.Busy n d → ⊥) → ((r : Reply) → answer ≡ answers.Returned r → ⊥) → GoesOn answer
goes seat answers.Idle old new there step busy ends = let none : is_some (old.on_seat seat) ≡ false = ap is_some step.0 in absurd (let z : ◌≡◌ {A = Bool} false true = sym none ∙ there in cc)
goes seat (answers.Took n) old new there step busy ends = tt
goes seat (answers.Busy n d) old new there step busy ends = absurd (busy n d refl)
goes seat (answers.LetGo n) old new there step busy ends = tt
goes seat (answers.Helped d) old new there step busy ends = tt
goes seat answers.Committed old new there step busy ends = tt
goes seat answers.CarriedOut old new there step busy ends = tt
goes seat (answers.Returned r) old new there step busy ends = tt

-- the call of a begin is on its seat
pub seated : (seat number : ℕ) (call : Call) (old new : State) → Begins old seat call (Ok number) new → IsSome (new.on_seat seat)
seated seat number call old new begins = on_it (reserved_by call) begins.2
  where
    here : (seat number : ℕ) (on_seat : ℕ → Option ℕ) → IsSome (set_at seat (Some number) on_seat seat)
    here seat number on_seat = ap is_some (upd_here seat (Some number) on_seat)

    on_it : (wanted : Option Shape) → Reserves old seat call number wanted new → IsSome (new.on_seat seat)
    on_it None is = ap (λ (s : State). is_some (s.on_seat seat)) is ∙ here seat number old.on_seat
    on_it (Some shape) (n, below, free, is) = ap (λ (s : State). is_some (s.on_seat seat)) is ∙ here seat number old.on_seat

-- and the other seats are as they were
pub others_as_before : (seat number : ℕ) (call : Call) (old new : State) → Begins old seat call (Ok number) new → (other : ℕ) → (other ≡ seat → ⊥) → new.on_seat other ≡ old.on_seat other
others_as_before seat number call old new begins other apart = on_it (reserved_by call) begins.2
  where
    on_it : (wanted : Option Shape) → Reserves old seat call number wanted new → new.on_seat other ≡ old.on_seat other
    on_it None is = ap (λ (s : State). s.on_seat other) is ∙ upd_else seat (Some number) old.on_seat other apart
    on_it (Some shape) (n, below, free, is) = ap (λ (s : State). s.on_seat other) is ∙ upd_else seat (Some number) old.on_seat other apart

-- a call that goes on is under way on the seat
under_way : (s : State) (seat : ℕ) (answer : Stepped) (new : State) → GoesOn answer → Step s seat answer new → (c : ℕ) × (s.on_seat seat ≡ Some c)
under_way s seat Idle new goes step = absurd goes
under_way s seat (Took n) new goes step = (step.0, step.2.0)
under_way s seat (Busy n d) new goes step = absurd goes
under_way s seat (LetGo n) new goes step = (step.0, step.2.0)
under_way s seat (Helped d) new goes step = (step.0, step.3.0)
under_way s seat Committed new goes step = (step.0, step.3.0)
under_way s seat CarriedOut new goes step = (step.0, step.4.0)
under_way s seat (Returned r) new goes step = (step.0, step.2.0)

-- the one seat with a call goes on, so it does not wait
never_waits : (s : State) (seat c holder : ℕ) → Run s → s.on_seat seat ≡ Some c → ((other : ℕ) → (other ≡ seat → ⊥) → s.on_seat other ≡ None) → IsWaiting s seat holder → ⊥
never_waits s seat c holder run here others waiting =
    let found : (op : Record) × (s.ops c ≡ Some op) × (op.seat ≡ seat) = (run_keeps s run).seated seat c here in
    let goes : SomebodyGoesOn s = never_stuck s run c found.0 found.1 in
    let on : (d : ℕ) × (s.on_seat goes.seat ≡ Some d) = under_way s goes.seat goes.answer goes.new goes.goes_on goes.step in
    let mine : goes.seat ≡ seat → ⊥ = λ is.
    (let same = one_step s seat goes.answer (Busy waiting.0 holder) goes.new s (subst (λ (k : ℕ). Step s k goes.answer goes.new) is goes.step) waiting.1 in
    subst (λ (a : Stepped). GoesOn a) same.0 goes.goes_on) in
    none_some (others goes.seat mine) on.1
  where
    none_some : {d : ℕ} {o : Option ℕ} → o ≡ None → o ≡ Some d → ⊥
    none_some e f = cc

-- a call that begins with no other under way does not wait
pub alone_never_waits : (seat number holder : ℕ) (call : Call) (old first new : State) → Run new → ((other : ℕ) → old.on_seat other ≡ None) → Begins old seat call (Ok number) first → Steps seat first new → IsWaiting new seat holder → ⊥
alone_never_waits seat number holder call old first new run rest begins steps waiting = go (new.on_seat seat) refl
  where
    go : (o : Option ℕ) → new.on_seat seat ≡ o → ⊥
    go None none = absurd (let z : is_some (first.on_seat seat) ≡ false = ap is_some (sym (all_keep seat seat steps) ∙ none) in let w : ◌≡◌ {A = Bool} false true = sym z ∙ seated seat number call old first begins in cc)
    go (Some c) here = never_waits new seat c holder run here (λ other apart. all_keep seat other steps ∙ others_as_before seat number call old first begins other apart ∙ rest other) waiting
