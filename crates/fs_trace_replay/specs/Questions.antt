-- What is asked of an input's trees, by the words of a command line.
use Rattle.std.specs.Prelude.{◌≡◌, ℕ, ◌+◌, Bool, ◌==◌, List, Option, Some, None, Ok, Err, take, drop, position, if◌then◌else◌}
use Rattle.fs_names.specs.Limits.{largest}
use Rattle.fs_words.specs.Reading.{path_at}
use Rattle.fs_words.specs.Words.{number_of}
use Rattle.fs_verdict.specs.declared.fault.RunFault.TheVariants.{OutOfMemory}
use Rattle.fs_trace_replay.specs.declared.fault.ReplayFault.{ReplayFault}
use Rattle.fs_trace_replay.specs.declared.fault.ReplayFault.TheVariants as fault
use Rattle.fs_trace_replay.specs.declared.asking.Asked.{Asked}
use Rattle.fs_trace_replay.specs.declared.asking.Asked.TheVariants as asked
use Rattle.fs_trace_replay.specs.declared.asking.Question.{Question}
use Rattle.fs_trace_replay.specs.declared.asking.Question.TheVariants.{Whole, At, Before, Who}

-- what stands between a thread and the place of its call: `#`
abbrev pub is_mark : ℕ → Bool
is_mark b = b == 35

-- a thread with a place, which is counted from 1
abbrev pub with_place : List ℕ → Option ℕ → Option (List ℕ × ℕ)
with_place thread None = None
with_place thread (Some turn) = if turn == 0 then None else Some (thread, turn)

-- what stands before the mark, and the number behind it
abbrev pub named_at : List ℕ → Option ℕ → Option (List ℕ × ℕ)
named_at word None = None
named_at word (Some at) = with_place (take at word) (number_of (drop (at + 1) word))

-- the thread and the place of its call that a word names: THREAD#NUMBER
abbrev pub named_by : List ℕ → Option (List ℕ × ℕ)
named_by word = named_at word (position is_mark word)

-- the question that is asked by a word that is a call
abbrev pub IsBefore : List ℕ → Question → Type 0
IsBefore word (Before thread turn) = named_by word ≡ Some (thread.items, turn)
IsBefore word question = ⊥

-- the question that is asked by a word that is a path, by the largest limits
abbrev pub IsWho : List ℕ → Question → Type 0
IsWho word (Who path) = path_at largest word ≡ Ok path
IsWho word question = ⊥

-- the question that is asked
abbrev pub IsQuestionOf : Asked → Question → Type 0
IsQuestionOf asked.Whole question = question ≡ Whole
IsQuestionOf (asked.At n) question = question ≡ At n
IsQuestionOf (asked.Before word) question = IsBefore word.now question
IsQuestionOf (asked.Who word) question = IsWho word.now question

-- a word is no call, or there is no memory
abbrev pub IsCallFault : List ℕ → ReplayFault → Type 0
IsCallFault word fault.BadCall = named_by word ≡ None
IsCallFault word (fault.Run f) = f ≡ OutOfMemory
IsCallFault word f = ⊥

-- why a word is no path, or out of memory
abbrev pub IsPathFault : List ℕ → ReplayFault → Type 0
IsPathFault word (fault.BadPath kind) = path_at largest word ≡ Err kind
IsPathFault word (fault.Run f) = f ≡ OutOfMemory
IsPathFault word f = ⊥

-- what is wrong with the words
abbrev pub IsWordFault : Asked → ReplayFault → Type 0
IsWordFault asked.Whole f = ⊥
IsWordFault (asked.At n) f = ⊥
IsWordFault (asked.Before word) f = IsCallFault word.now f
IsWordFault (asked.Who word) f = IsPathFault word.now f
