-- What reading a script gives.
use Rattle.std.specs.Prelude.{ℕ, ◌+◌, Bool, true, false, not, ◌&&◌, ◌||◌, ◌==◌, nat_lt, nat_le, List, [], ◌∷◌, ◌++◌, length, take, drop, Result, Ok, Err, Option, Some, None, if◌then◌else◌, codes, position}
use Rattle.std.specs.List.{list_all, list_any}
use Rattle.std.specs.Str.{bytes_eq}
use Rattle.fs_names.specs.declared.limits.Limits.{Limits}
use Rattle.fs_calls.specs.declared.call.Call.{Call}
use Rattle.fs_words.specs.Lines.{is_passed_over}
use Rattle.fs_words.specs.Words.{Word, number_of}
use Rattle.fs_words.specs.Reading.{◌>>=◌, words_of, fault_at, at_line, headed}
use Rattle.fs_text.specs.Calls.{call_of}
use Rattle.fs_script.specs.declared.limits.TheConstants.{THREAD_LIMIT, EVENT_LIMIT, THREAD_NAME_LIMIT}
use Rattle.fs_words.specs.declared.fault.ScriptFault.{ScriptFault}
use Rattle.fs_words.specs.declared.fault.FaultKind.{FaultKind}
use Rattle.fs_words.specs.declared.fault.FaultKind.TheVariants as kind
use Rattle.fs_script.specs.declared.script.Script.{Script}
use Rattle.fs_script.specs.declared.script.Word as schedule
use Rattle.fs_script.specs.declared.script.Word.TheVariants.{Events, Finish, Checkpoint, Drawn}
use Rattle.fs_words.specs.Headers.{script_header, announced}
use Rattle.fs_script.specs.Limits.{call_limit, calls_in, events_in}

-- ---- threads

-- a letter of the lower case
abbrev pub is_lower : ℕ → Bool
is_lower b = nat_le 97 b && nat_le b 122

-- a digit
abbrev pub is_digit : ℕ → Bool
is_digit b = nat_le 48 b && nat_le b 57

-- a letter, a digit or `_`
abbrev pub is_thread_byte : ℕ → Bool
is_thread_byte b = is_lower b || (is_digit b || b == 95)

-- a letter, and behind it letters, digits and `_`; no longer than its limit, and not `finish`
abbrev pub is_thread : Word → Bool
is_thread [] = false
is_thread (b ∷ bs) = is_lower b && (list_all is_thread_byte (b ∷ bs) && (nat_le (length (b ∷ bs)) THREAD_NAME_LIMIT && not (bytes_eq (b ∷ bs) (codes "finish"))))

-- the seat of a thread, by the order of the blocks
abbrev pub seat_named : List Word → Word → Option ℕ
seat_named names name = position (bytes_eq name) names

-- ---- a line of blocks

-- the script with a thread more, which has no calls yet
abbrev pub with_thread : Script → Word → Script
with_thread s name = record s { names = s.names ++ name ∷ []; lists = s.lists ++ [] ∷ [] }

-- a name that may be a thread's, is none's yet, and for which there is room
abbrev pub new_thread : Script → Word → Result Script FaultKind
new_thread s name =
    if not (is_thread name) then Err kind.BadThread
    else (if list_any (bytes_eq name) s.names then Err kind.ThreadTwice
    else (if nat_le THREAD_LIMIT (length s.names) then Err kind.TooLarge
    else Ok (with_thread s name)))

-- what stands behind `thread` is one name
abbrev pub thread_line : Script → List Word → Result Script FaultKind
thread_line s (name ∷ []) = new_thread s name
thread_line s _ = Err kind.BadLine

-- the last list with a call more
abbrev pub with_call : Call → List (List Call) → List (List Call)
with_call c [] = []
with_call c (calls ∷ []) = (calls ++ c ∷ []) ∷ []
with_call c (calls ∷ next ∷ more) = calls ∷ with_call c (next ∷ more)

-- a call more of the last thread, where the script has room for it
abbrev pub new_call : Script → Call → Result Script FaultKind
new_call s c = if nat_le (call_limit s.limits) (calls_in s.lists) then Err kind.TooLarge else Ok (record s { lists = with_call c s.lists })

-- no call stands before the first thread; a call is read by the limits of the script
abbrev pub call_line : Script → List Word → Result Script FaultKind
call_line s words = if length s.lists == 0 then Err kind.BadLine else (call_of s.limits words >>= new_call s)

-- a line of blocks: a thread, or a call of the last thread
unfoldable pub block_line : Script → List Word → Result Script FaultKind
block_line s [] = Err kind.BadLine
block_line s (first ∷ more) = if bytes_eq first (codes "thread") then thread_line s more else call_line s (first ∷ more)

-- ---- a line of the schedule

-- the script with a word more
abbrev pub with_word : Script → schedule.Word → Script
with_word s word = record s { words = s.words ++ word ∷ [] }

-- so many events more of the thread with this seat, where the schedule has room for them
abbrev pub new_events : Script → ℕ → ℕ → Result Script FaultKind
new_events s seat times = if nat_lt EVENT_LIMIT (events_in s.words + times) then Err kind.TooLarge else Ok (with_word s (Events seat times))

-- the thread has to be there, and the number from 1 to its limit
abbrev pub events_word : Script → Option ℕ → Option ℕ → Result Script FaultKind
events_word s (Some seat) (Some times) = if nat_le 1 times && nat_le times EVENT_LIMIT then new_events s seat times else Err kind.BadWord
events_word s _ _ = Err kind.BadWord

-- `*`
abbrev pub is_star : ℕ → Bool
is_star b = b == 42

-- a thread alone, or a thread, the first `*` and a number
abbrev pub timed_word : Script → Word → Option ℕ → Result Script FaultKind
timed_word s word None = events_word s (seat_named s.names word) (Some 1)
timed_word s word (Some at) = events_word s (seat_named s.names (take at word)) (number_of (drop (at + 1) word))

-- whether a word was `finish` or `!drawn`
abbrev pub has_finish : List schedule.Word → Bool
has_finish [] = false
has_finish (Events seat times ∷ words) = has_finish words
has_finish (Finish ∷ words) = true
has_finish (Checkpoint ∷ words) = has_finish words
has_finish (Drawn ∷ words) = true

-- a word of the schedule: `finish` or `!drawn`, after which there is none, `!checkpoint`, or events of a thread
unfoldable pub schedule_word : Script → Word → Result Script FaultKind
schedule_word s word =
    if has_finish s.words then Err kind.BadWord
    else (if bytes_eq word (codes "finish") then Ok (with_word s Finish)
    else (if bytes_eq word (codes "!checkpoint") then Ok (with_word s Checkpoint)
    else (if bytes_eq word (codes "!drawn") then Ok (with_word s Drawn)
    else timed_word s word (position is_star word))))

-- a line of the schedule: its words, from left to right
abbrev pub schedule_line : Script → List Word → Result Script FaultKind
schedule_line s [] = Ok s
schedule_line s (word ∷ more) = schedule_word s word >>= λ t. schedule_line t more

-- ---- the whole text

-- the lines of the schedule, from this number on
unfoldable pub schedule_from : ℕ → Script → List (List ℕ) → Result Script ScriptFault
schedule_from n s [] = Ok s
schedule_from n s (line ∷ more) =
    if is_passed_over line then schedule_from (n + 1) s more
    else (at_line n (words_of line >>= schedule_line s) >>= λ t. schedule_from (n + 1) t more)

-- the lines of blocks, from this number on, up to the line `schedule`
unfoldable pub blocks_from : ℕ → Script → List (List ℕ) → Result Script ScriptFault
blocks_from n s [] = Err (fault_at n kind.NoSchedule)
blocks_from n s (line ∷ more) =
    if is_passed_over line then blocks_from (n + 1) s more
    else (if bytes_eq line (codes "schedule") then schedule_from (n + 1) s more
    else (at_line n (words_of line >>= block_line s) >>= λ t. blocks_from (n + 1) t more))

-- the script before its lines are read, by these limits
abbrev pub nothing_yet : Limits → Script
nothing_yet limits = record { names = []; lists = []; words = []; limits = limits }

-- what lines give behind one that announces these limits, or none
abbrev pub announced_script : Option Limits → List (List ℕ) → Result Script ScriptFault
announced_script None lines = Err (fault_at 1 kind.BadHeader)
announced_script (Some limits) lines = blocks_from 2 (nothing_yet limits) lines

-- what a first line and those behind it give
abbrev pub script_behind : List ℕ × List (List ℕ) → Result Script ScriptFault
script_behind (first, lines) = announced_script (announced script_header first) lines

-- what reading a script text gives
unfoldable pub script_of : List ℕ → Result Script ScriptFault
script_of text = headed text >>= script_behind
