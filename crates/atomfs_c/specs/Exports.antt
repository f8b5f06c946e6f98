-- What exports say of the core behind a handle.
use Rattle.std.specs.Prelude.{◌≡◌, ◌<◌, ◌⊎◌, ℕ, [], Result, Ok, Err, List, Option, Some, None, IsSome, IsSomeAnd, IfSome, length}
use Rattle.fs_calls.specs.Outcomes.{play}
use Rattle.fs_calls.specs.Starts.{Start}
use Rattle.fs_calls.specs.Sights.{tree_shapes}
use Rattle.fs_calls.specs.declared.reply.Reply.{Reply}
use Rattle.fs_nodes.specs.Graphs.{graph_shapes}
use Rattle.fs_nodes.specs.Stores.{graph_of}
use Rattle.fs_timeline.specs.Timeline as timeline
use Rattle.fs_linearizable.specs.Linearizable.{history, IsLinearizable}
use Rattle.fs_names.specs.Keys.{Key}
use Rattle.fs_names.specs.Limits.{node_limit}
use Rattle.fs_names.specs.Reading.{reading}
use Rattle.fs_names.specs.declared.fault.PathFault.{PathFault}
use Rattle.fs_names.specs.declared.limits.TheConstants.{NODE_LIMIT}
use Rattle.fs_names.specs.declared.limits.Limits.{Limits}
use Rattle.fs_machine.specs.States.{empty, fresh}
use Rattle.fs_machine.specs.declared.answers.Stepped.TheVariants.{Idle}
use Rattle.fs_core.specs.CoreValues.{CoreValue, state_of, IsAtRest}
use Rattle.fs_words.specs.declared.fault.ScriptFault.{ScriptFault}
use Rattle.fs_embed.specs.Calls.{BeginsCall, RunsCall, WaitsCall, IsNotBegun, GoesOnAs, LeavesFewer, LeavesNone, code_of}
use Rattle.fs_embed.specs.Keeping.{After}
use Rattle.fs_embed.specs.Requests.{Asked}
use Rattle.fs_embed.specs.declared.calls.NotBegun.{NotBegun}
use Rattle.fs_embed.specs.Statuses.{IsReturned, IsRefusal, fault_status, begin_status, path_status}
use Rattle.fs_embed.specs.declared.status.TheConstants.{OK, UNTOLD, WAITS, CLOSED, ALREADY_OPEN, BAD_LIMIT, NO_MEMORY, FULL, BAD_VERSION, FAILED}
-- what is asked for by a number, and what is told in a caller's memory
pub use Rattle.fs_embed.specs.Numbered.{limits_of, to_keep}
pub use Rattle.fs_embed.specs.Told.{LeavesText, IsTooLong, Tells, IsHanded, IsToldText, IsToldStat, IsToldNames, IsToldBytes, IsToldWrote, IsToldBehind, IsToldVerdict, IsReplied, done_status}

-- of what reading bytes as a path gives
abbrev pub reading_status : Result Key PathFault → ℕ
reading_status (Ok path) = OK
reading_status (Err fault) = path_status fault

-- what a status says of bytes as a path by the limits of a version: that they are one, why they are none, or out of memory
abbrev pub TellsPath : Option Limits → List ℕ → ℕ → Type 0
TellsPath None bytes status = status ≡ BAD_VERSION
TellsPath (Some limits) bytes status = (status ≡ reading_status (reading limits bytes)) ⊎ (status ≡ NO_MEMORY)

-- a core before anything began, without seats
abbrev pub IsOpened : Limits → ℕ → CoreValue → Type 0
IsOpened limits limit core = (state_of core ≡ empty limits limit) × (core.seats ≡ [])

-- a core that begins at a start, whose tree its nodes spell, without seats and entries
abbrev pub IsOpenedAt : Start → ℕ → CoreValue → Type 0
IsOpenedAt start limit core = (state_of core ≡ fresh limit start (graph_of core.store)) × (graph_shapes (graph_of core.store) ≡ tree_shapes start.tree) × (core.seats ≡ [])

-- the most nodes for which a handle is opened at the tree behind this one: as many as its limits have, and where it is closed as there is room for
abbrev pub most_at : Option CoreValue → ℕ
most_at None = NODE_LIMIT
most_at (Some core) = node_limit core.start.limits

-- a status says why a handle is not opened for `limit` nodes, where a core has `most` at most, whatever is to be opened: it is open, or no core has this limit
abbrev pub IsNotToOpen : Option CoreValue → ℕ → ℕ → ℕ → Type 0
IsNotToOpen held most limit status = (IsSome held × (status ≡ ALREADY_OPEN)) ⊎ ((held ≡ None) × (status ≡ BAD_LIMIT) × ((limit ≡ 0) ⊎ (most < limit)))

-- a status says why a handle is not opened at what was read: nothing is to be opened, the text has a fault, whose line is told, the tree has more nodes than the limit, or memory ran out
abbrev pub IsToldStart : Result Start ScriptFault → Option CoreValue → ℕ → ℕ → ℕ → ℕ → Type 0
IsToldStart given held most limit status line =
    IsNotToOpen held most limit status ⊎ ((fault : ScriptFault) × (given ≡ Err fault) × (status ≡ fault_status fault.kind) × (line ≡ fault.line)) ⊎ ((start : Start) × (given ≡ Ok start) × (status ≡ FULL) × (limit < length start.tree)) ⊎ (status ≡ NO_MEMORY)

-- the handle is open before and after, and what became of the core is such
abbrev pub Goes : (CoreValue → CoreValue → Type 0) → Option CoreValue → Option CoreValue → Type 0
Goes P old new = IsSomeAnd old (λ a. IsSomeAnd new (λ b. P a b))

-- a closed handle is told to be closed, and stays so; an open one is not, and stays open
abbrev pub ToldIfClosed : ℕ → Option CoreValue → Option CoreValue → Type 0
ToldIfClosed status None new = (status ≡ CLOSED) × (new ≡ None)
ToldIfClosed status (Some core) new = (status ≡ CLOSED → ⊥) × IsSome new

-- the timeline of the core, if there is one, is lawful from its start tree, and its history is linearizable
abbrev pub IsLawful : Option CoreValue → Type 0
IsLawful new = IfSome new (λ core. timeline.IsLawful core.start core.timeline × IsLinearizable core.start (history core.timeline))

-- where no call of it is under way, its nodes spell the tree that the commits of its timeline play on its start tree
abbrev pub IsSpelled : Option CoreValue → Type 0
IsSpelled new = IfSome new (λ core. IsAtRest core → graph_shapes (graph_of core.store) ≡ tree_shapes (play core.start (timeline.commits core.timeline)))

-- ---- what came of a call: behind what a core forgets that is to keep no more calls than so many

-- what a status says of a call that was asked for on a seat, and Told of its reply
pub record IsCalled (most : Option ℕ) (given : Asked) (seat : ℕ) (Told : Reply → Type 0) (status number : ℕ) (old new : Option CoreValue) : Type 0 where
  -- it began under this number and its steps led to its return with a reply, which is told
  pub returned : IsReturned status → (reply : Reply) × Goes (After most (λ a b. RunsCall a seat given number reply b)) old new × Told reply
  -- it began under this number and is under way, at a node that a call of another seat holds
  pub waits : status ≡ WAITS → Goes (After most (λ a b. (holder : ℕ) × WaitsCall a seat given number holder b)) old new
  -- it did not begin, for the reason that the status is the number of, and nothing changed
  pub refused : IsRefusal status → Goes (After most (λ a b. (why : NotBegun) × (status ≡ begin_status why) × IsNotBegun a seat given why b)) old new
  pub closed : ToldIfClosed status old new

-- what a status says of the begin of a call that was asked for on a seat
pub record IsBegun (most : Option ℕ) (given : Asked) (seat status number : ℕ) (old new : Option CoreValue) : Type 0 where
  pub begun : status ≡ OK → Goes (After most (λ a b. BeginsCall a seat given number b)) old new
  pub refused : IsRefusal status → Goes (After most (λ a b. (why : NotBegun) × (status ≡ begin_status why) × IsNotBegun a seat given why b)) old new
  pub closed : ToldIfClosed status old new

-- a step of some seat by which its call went on, told by two numbers; or no call is under way, and nothing changed, nor what stood in the place of the seat
abbrev pub StepsAny : CoreValue → ℕ → ℕ → ℕ → ℕ → CoreValue → Type 0
StepsAny old before seat code about new = GoesOnAs old seat code about new ⊎ ((code ≡ code_of Idle) × (about ≡ 0) × (seat ≡ before) × IsAtRest old × (state_of new ≡ state_of old))

-- fewer steps are left than before; or it was no step, and none is left
abbrev pub ComesCloser : CoreValue → ℕ → CoreValue → Type 0
ComesCloser old code new = LeavesFewer old new ⊎ ((code ≡ code_of Idle) × LeavesNone new)

-- what came of a call behind a handle: its reply, or the status that says why there is none
abbrev pub Comes : Option ℕ → Asked → ℕ → Result Reply ℕ → ℕ → Option CoreValue → Option CoreValue → Type 0
Comes most given seat (Ok reply) number old new = Goes (After most (λ a b. RunsCall a seat given number reply b)) old new
Comes most given seat (Err status) number old new = IsCalled most given seat (λ reply. ⊥) status number old new × (UNTOLD < status) × (status < FAILED)
