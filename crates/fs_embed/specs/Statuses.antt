-- Which number each answer has.
use Rattle.std.specs.Prelude.{◌≡◌, ◌<◌, ◌≤◌, ◌+◌, ◌⊎◌, ℕ, List, Result}
use Rattle.fs_calls.specs.declared.errno.Errno.{Errno}
use Rattle.fs_calls.specs.declared.errno.Errno.TheVariants.{Enoent, Enotdir, Eexist, Enotempty, Eisdir, Einval, Ebusy, Eperm, Enospc, Efbig, Eoverflow}
use Rattle.fs_names.specs.declared.fault.PathFault.{PathFault}
use Rattle.fs_names.specs.declared.fault.PathFault.TheVariants as path
use Rattle.fs_machine.specs.declared.answers.Refusal.{Refusal}
use Rattle.fs_machine.specs.declared.answers.Refusal.TheVariants as refusals
use Rattle.fs_core.specs.declared.checkpoint.NoCheckpoint.{NoCheckpoint}
use Rattle.fs_core.specs.declared.checkpoint.NoCheckpoint.TheVariants as not_again
use Rattle.fs_embed.specs.declared.calls.NotBegun.{NotBegun}
use Rattle.fs_embed.specs.declared.calls.NotBegun.TheVariants as not_begun
use Rattle.fs_sched.specs.declared.schedule.Schedule.{Schedule}
use Rattle.fs_sched.specs.Devices.{IsFaultOf}
use Rattle.fs_sched.specs.Runs.{IsFaultOfRun}
use Rattle.fs_verdict.specs.declared.fault.RunFault.{RunFault}
use Rattle.fs_verdict.specs.declared.fault.RunFault.TheVariants.{Input, UnderWay}
use Rattle.fs_embed.specs.declared.calls.NotReturned.{NotReturned}
use Rattle.fs_embed.specs.declared.calls.NotReturned.TheVariants as not_returned
use Rattle.fs_words.specs.declared.fault.FaultKind.{FaultKind}
use Rattle.fs_words.specs.declared.fault.FaultKind.TheVariants as kind
use Rattle.fs_words.specs.declared.fault.ScriptFault.{ScriptFault}
use Rattle.fs_embed.specs.declared.status.TheConstants.{OK, UNTOLD, WAITS, CLOSED, ALREADY_OPEN, BAD_LIMIT, NO_MEMORY, NO_SEAT, SEAT_BUSY, FULL, NO_REPLY, UNDER_WAY, BAD_VERSION, BAD_HEADER, BAD_LINE, BAD_THREAD, THREAD_TWICE, BAD_PATH, BAD_NUMBER, BAD_HEX, NO_SCHEDULE, BAD_WORD, TOO_LARGE, BAD_REPLY, BAD_START, PATH_NOT_ABSOLUTE, PATH_NUL, PATH_NAME_TOO_LONG, PATH_TOO_MANY_NAMES, PATH_DOT, PATH_TRAILING_SLASH, FAILED}

-- a status of a call that has returned: done, or failed
abbrev pub IsReturned : ℕ → Type 0
IsReturned status = UNTOLD < status → FAILED ≤ status

-- a status of what did not begin
pub record IsRefusal (status : ℕ) : Type 0 where
  pub above : CLOSED < status
  pub below : status < FAILED

-- a status of the opening of a handle
abbrev pub IsOfOpen : ℕ → Type 0
IsOfOpen status = (status ≡ OK) ⊎ (status ≡ ALREADY_OPEN) ⊎ (status ≡ BAD_LIMIT) ⊎ (status ≡ NO_MEMORY)

-- a status of a text of a handle
abbrev pub IsOfText : ℕ → Type 0
IsOfText status = (status < UNTOLD) ⊎ (status ≡ CLOSED) ⊎ (status ≡ NO_MEMORY)

-- a status of the begin of a call
abbrev pub IsOfBegin : ℕ → Type 0
IsOfBegin status = (status ≡ OK) ⊎ (status ≡ CLOSED) ⊎ IsRefusal status

-- a status of the reply of a call
abbrev pub IsOfReply : ℕ → Type 0
IsOfReply status = IsReturned status ⊎ (status ≡ NO_REPLY) ⊎ (status ≡ CLOSED)

-- Linux's number of an error
abbrev pub linux_number : Errno → ℕ
linux_number Enoent = 2
linux_number Enotdir = 20
linux_number Eexist = 17
linux_number Enotempty = 39
linux_number Eisdir = 21
linux_number Einval = 22
linux_number Ebusy = 16
linux_number Eperm = 1
linux_number Enospc = 28
linux_number Efbig = 27
linux_number Eoverflow = 75

-- of a call that failed
abbrev pub failed_status : Errno → ℕ
failed_status errno = FAILED + linux_number errno

-- of a fault of what is read
abbrev pub fault_status : FaultKind → ℕ
fault_status kind.BadHeader = BAD_HEADER
fault_status kind.BadLine = BAD_LINE
fault_status kind.BadThread = BAD_THREAD
fault_status kind.ThreadTwice = THREAD_TWICE
fault_status (kind.BadPath fault) = BAD_PATH
fault_status kind.BadNumber = BAD_NUMBER
fault_status kind.BadHex = BAD_HEX
fault_status kind.NoSchedule = NO_SCHEDULE
fault_status kind.BadWord = BAD_WORD
fault_status kind.TooLarge = TOO_LARGE
fault_status kind.OutOfMemory = NO_MEMORY
fault_status kind.BadReply = BAD_REPLY
fault_status kind.BadStart = BAD_START

-- of what is wrong with the bytes of a path
abbrev pub path_status : PathFault → ℕ
path_status path.NotAbsolute = PATH_NOT_ABSOLUTE
path_status path.Nul = PATH_NUL
path_status path.NameTooLong = PATH_NAME_TOO_LONG
path_status path.TooManyNames = PATH_TOO_MANY_NAMES
path_status path.Dot = PATH_DOT
path_status path.TrailingSlash = PATH_TRAILING_SLASH
path_status path.OutOfMemory = NO_MEMORY

-- of a refusal of the core
abbrev pub refusal_status : Refusal → ℕ
refusal_status refusals.OutOfMemory = NO_MEMORY
refusal_status refusals.Full = FULL
refusal_status refusals.SeatBusy = SEAT_BUSY

-- of the reason why a call did not begin
abbrev pub begin_status : NotBegun → ℕ
begin_status not_begun.NoSeat = NO_SEAT
begin_status (not_begun.Unread k) = fault_status k
begin_status not_begun.NoSuchCall = BAD_VERSION
begin_status (not_begun.Refused refusal) = refusal_status refusal

-- of the reason why a run has no text, with the line of a fault of the input or the number of a call under way; bytes in memory are there to be read and written, so else memory ran out
abbrev pub IsToldFault : RunFault → ℕ → ℕ → Type 0
IsToldFault (Input fault) status line = (status ≡ fault_status fault.kind) × (line ≡ fault.line)
IsToldFault (UnderWay call) status line = (status ≡ UNDER_WAY) × (line ≡ call)
IsToldFault why status line = status ≡ NO_MEMORY

-- a status and a line tell why what an input gives has no text
abbrev pub TellsFault : {X : Type 0} → Result X ScriptFault → ℕ → ℕ → Type 0
TellsFault given status line = (why : RunFault) × IsFaultOf given why × IsToldFault why status line

-- the same of a run of a script
abbrev pub TellsNoRun : Schedule → List ℕ → ℕ → ℕ → Type 0
TellsNoRun schedule script status line = (why : RunFault) × IsFaultOfRun schedule script why × IsToldFault why status line

-- of the reason why a call did not return, with the number of a call that is under way
abbrev pub IsToldWhy : NotReturned → ℕ → ℕ → Type 0
IsToldWhy (not_returned.Waits call holder) status number = (status ≡ WAITS) × (number ≡ call)
IsToldWhy (not_returned.NotBegun why) status number = (status ≡ begin_status why) × IsRefusal status

-- of the reason why a journal did not begin again, with the least number of a call under way
abbrev pub IsToldWhyNot : NoCheckpoint → ℕ → ℕ → Type 0
IsToldWhyNot (not_again.UnderWay call) status number = (status ≡ UNDER_WAY) × (number ≡ call)
IsToldWhyNot not_again.OutOfMemory status number = status ≡ NO_MEMORY
