-- What begins, steps and calls that a caller asks for do to a core.
use Rattle.std.specs.Prelude.{◌≡◌, ◌≢◌, ℕ, ◌≤◌, ◌<◌, ◌+◌, true, false, Result, Ok, Err, length}
use Rattle.fs_names.specs.declared.limits.Limits.{Limits}
use Rattle.fs_calls.specs.Forms.{form}
use Rattle.fs_calls.specs.declared.call.Call.{Call}
use Rattle.fs_calls.specs.declared.reply.Reply.{Reply}
use Rattle.fs_words.specs.declared.fault.FaultKind.{FaultKind}
use Rattle.fs_words.specs.declared.fault.FaultKind.TheVariants as kind
use Rattle.fs_laws.specs.OneCall.{StepsTo}
use Rattle.fs_laws.specs.Progress.{GoesOn}
use Rattle.fs_laws.specs.StepsLeft.{steps_left, first_steps}
use Rattle.fs_machine.specs.States.{State, Begins, Step}
use Rattle.fs_core.specs.CoreValues.{CoreValue, state_of}
use Rattle.fs_core.specs.Calls.{Steps, IsWaiting}
use Rattle.fs_machine.specs.declared.answers.Refusal.{Refusal}
use Rattle.fs_machine.specs.declared.answers.Refusal.TheVariants.{OutOfMemory, SeatBusy, Full}
use Rattle.fs_machine.specs.declared.answers.Stepped.{Stepped}
use Rattle.fs_machine.specs.declared.answers.Stepped.TheVariants.{Idle, Took, Busy, LetGo, Helped, Committed, CarriedOut, Returned}
use Rattle.fs_embed.specs.Requests.{Asked, has_call}
use Rattle.fs_embed.specs.declared.calls.NotBegun.{NotBegun}
use Rattle.fs_embed.specs.declared.calls.NotBegun.TheVariants as not_begun
use Rattle.fs_embed.specs.declared.calls.NotReturned.{NotReturned}
use Rattle.fs_embed.specs.declared.calls.NotReturned.TheVariants as not_returned

-- the call that is asked for by these limits, which have it
abbrev pub Asks : Asked → Limits → Call → Type 0
Asks given limits call = (given limits ≡ Ok call) × (has_call limits call ≡ true)

-- the call that is asked for begins on a seat under a number, and this is the state after
abbrev pub Opens : CoreValue → ℕ → Asked → ℕ → State → Type 0
Opens old seat given number first = (call : Call) × Asks given old.start.limits call × Begins (state_of old) seat call (Ok number) first

-- a begin adds steps that are left: two for each name in the paths of its call, and twelve
abbrev pub AddsSteps : CoreValue → Asked → State → Type 0
AddsSteps old given new = (call : Call) → given old.start.limits ≡ Ok call → steps_left new ≡ steps_left (state_of old) + first_steps (form old.start.limits call)

-- the same, nothing else happens, no memory was refused, and so many steps more are left
abbrev pub BeginsCall : CoreValue → ℕ → Asked → ℕ → CoreValue → Type 0
BeginsCall old seat given number new = Opens old seat given number (state_of new) × (new.refusals ≡ old.refusals) × AddsSteps old given (state_of new)

-- what is asked for is no call; out of memory says nothing of it
abbrev pub IsNoCall : Result Call FaultKind → FaultKind → Type 0
IsNoCall given kind.OutOfMemory = Unit {0}
IsNoCall given k = given ≡ Err k

-- that memory was refused is counted, and no other refusal is
abbrev pub IsCounted : Refusal → ℕ → ℕ → Type 0
IsCounted OutOfMemory old new = new ≢ old
IsCounted SeatBusy old new = new ≡ old
IsCounted Full old new = new ≡ old

-- why the call that is asked for did not begin, and that nothing changed
abbrev pub IsNotBegun : CoreValue → ℕ → Asked → NotBegun → CoreValue → Type 0
IsNotBegun old seat given not_begun.NoSeat new = (length old.seats ≤ seat) × (new ≡ old)
IsNotBegun old seat given (not_begun.Unread k) new = IsNoCall (given old.start.limits) k × (new ≡ old)
IsNotBegun old seat given not_begun.NoSuchCall new = (call : Call) × (given old.start.limits ≡ Ok call) × (has_call old.start.limits call ≡ false) × (new ≡ old)
IsNotBegun old seat given (not_begun.Refused refusal) new = (call : Call) × Asks given old.start.limits call × Begins (state_of old) seat call (Err refusal) (state_of new) × IsCounted refusal old.refusals new.refusals

-- the call that is asked for begins under a number, and steps of its seat follow, up to the one that returns with this reply; no memory was refused
abbrev pub RunsCall : CoreValue → ℕ → Asked → ℕ → Reply → CoreValue → Type 0
RunsCall old seat given number reply new = (first : State) × Opens old seat given number first × StepsTo seat reply (state_of new) first × (new.refusals ≡ old.refusals)

-- the call that is asked for begins under a number, and steps of its seat follow, up to one that finds a node held by this call; no memory was refused
abbrev pub WaitsCall : CoreValue → ℕ → Asked → ℕ → ℕ → CoreValue → Type 0
WaitsCall old seat given number holder new = (first : State) × Opens old seat given number first × Steps seat first (state_of new) × IsWaiting (state_of new) seat holder × (new.refusals ≡ old.refusals)

-- why the call that is asked for did not return: it did not begin, and nothing changed; or it is under way and waits
abbrev pub IsNotReturned : CoreValue → ℕ → Asked → NotReturned → CoreValue → Type 0
IsNotReturned old seat given (not_returned.NotBegun why) new = IsNotBegun old seat given why new
IsNotReturned old seat given (not_returned.Waits number holder) new = WaitsCall old seat given number holder new

-- the number of what a step did
abbrev pub code_of : Stepped → ℕ
code_of Idle = 0
code_of (Took n) = 1
code_of (Busy n c) = 2
code_of (LetGo n) = 3
code_of (Helped c) = 4
code_of Committed = 5
code_of CarriedOut = 6
code_of (Returned r) = 7

-- what it did it to: the call that holds the node or that was helped, else the node, else nothing
abbrev pub about_of : Stepped → ℕ
about_of Idle = 0
about_of (Took n) = n
about_of (Busy n c) = c
about_of (LetGo n) = n
about_of (Helped c) = c
about_of Committed = 0
about_of CarriedOut = 0
about_of (Returned r) = 0

-- a step of a seat, told by two numbers
abbrev pub StepsAs : CoreValue → ℕ → ℕ → ℕ → CoreValue → Type 0
StepsAs old seat code about new = (answer : Stepped) × (code ≡ code_of answer) × (about ≡ about_of answer) × Step (state_of old) seat answer (state_of new)

-- a step of a seat by which its call went on, told by two numbers
abbrev pub GoesOnAs : CoreValue → ℕ → ℕ → ℕ → CoreValue → Type 0
GoesOnAs old seat code about new = (answer : Stepped) × GoesOn answer × (code ≡ code_of answer) × (about ≡ about_of answer) × Step (state_of old) seat answer (state_of new)

-- the step of a seat lets no call go on
abbrev pub StandsStill : State → ℕ → Type 0
StandsStill state seat = (answer : Stepped) × (new : State) × Step state seat answer new × (GoesOn answer → ⊥)

-- fewer steps are left than before
abbrev pub LeavesFewer : CoreValue → CoreValue → Type 0
LeavesFewer old new = steps_left (state_of new) < steps_left (state_of old)

-- none is left
abbrev pub LeavesNone : CoreValue → Type 0
LeavesNone new = steps_left (state_of new) ≡ 0
