-- How what is found of a history is written.
use Rattle.std.specs.Prelude.{ℕ, List, [], ◌∷◌, ◌++◌, codes, decimal}
use Rattle.fs_names.specs.declared.kind.Kind.TheVariants.{Dir}
use Rattle.fs_calls.specs.Starts.{Start}
use Rattle.fs_calls.specs.declared.errno.Errno.{Errno}
use Rattle.fs_calls.specs.declared.errno.Errno.TheVariants.{Enoent}
use Rattle.fs_calls.specs.declared.reply.Reply.{Reply}
use Rattle.fs_calls.specs.declared.reply.Reply.TheVariants.{Done, Stat, Failed}
use Rattle.fs_timeline.specs.declared.entry.Entry.{Entry}
use Rattle.fs_timeline.specs.declared.entry.Entry.TheVariants.{Return}
use Rattle.fs_linearize_histories.specs.declared.heard.Pattern.{Pattern}
use Rattle.fs_linearize_histories.specs.declared.heard.Pattern.TheVariants.{Exactly, AnyError, OneOf, AnyDirectory, Except, Anything}
use Rattle.fs_linearize_histories.specs.declared.fault.HistoryFault.{HistoryFault}
use Rattle.fs_linearize_histories.specs.declared.fault.HistoryFault.TheVariants.{BeginTwice, SeatBusy, ReturnUnbegun, ReturnTwice}
use Rattle.fs_linearize.specs.declared.linearizing.Found.{Found}
use Rattle.fs_linearize.specs.declared.linearizing.Found.TheVariants as found
use Rattle.fs_script.specs.Journals.{journal_text}
use Rattle.fs_linearize_text.specs.declared.answer.Outcome.{Outcome}
use Rattle.fs_linearize_text.specs.declared.answer.Outcome.TheVariants.{Lawful, NoOrder, Fault, Unknown}

-- the word of a kind of fault
abbrev pub fault_word : HistoryFault → List ℕ
fault_word BeginTwice = codes "BeginTwice"
fault_word SeatBusy = codes "SeatBusy"
fault_word ReturnUnbegun = codes "ReturnUnbegun"
fault_word ReturnTwice = codes "ReturnTwice"

-- the line that says why no journal explains a history
abbrev pub none_line : ℕ → ℕ → List ℕ
none_line place call = codes "none " ++ (decimal place ++ (codes " " ++ (decimal call ++ codes "\n")))

abbrev pub fault_line : ℕ → HistoryFault → List ℕ
fault_line place kind = codes "fault " ++ (decimal place ++ (codes " " ++ (fault_word kind ++ codes "\n")))

abbrev pub unknown_line : ℕ → List ℕ
unknown_line place = codes "unknown " ++ (decimal place ++ codes "\n")

-- the journal that explains a history from its start tree, or that line
abbrev pub found_text : Start → Found → List ℕ
found_text start (found.Lawful journal) = journal_text start journal.items
found_text start (found.NoOrder place call possible held) = none_line place call
found_text start (found.Fault place kind) = fault_line place kind
found_text start (found.Unknown place) = unknown_line place

-- the first of errors, as a reply
abbrev pub shown_error : List Errno → Reply
shown_error [] = Done
shown_error (e ∷ errors) = Failed e

-- a reply of which this is known; where it is left open, one that fits (no text says which a reply is not)
abbrev pub shown : Pattern → Reply
shown (Exactly r) = r
shown AnyError = Failed Enoent
shown (OneOf errors) = shown_error errors
shown AnyDirectory = Stat Dir 0
shown (Except replies) = Done
shown Anything = Done

-- the journal of entries from a start tree, and behind them the return that nothing explains
abbrev pub front_text : Start → List Entry → ℕ → Pattern → List ℕ
front_text start journal c p = journal_text start (journal ++ Return c (shown p) ∷ [])

abbrev pub outcome_of : Found → Outcome
outcome_of (found.Lawful journal) = Lawful
outcome_of (found.NoOrder place call possible held) = NoOrder
outcome_of (found.Fault place kind) = Fault
outcome_of (found.Unknown place) = Unknown
