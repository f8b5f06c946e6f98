-- Histories one after the other in one text, and what is written of them.
use Rattle.std.specs.Prelude.{ℕ, ◌+◌, Bool, true, false, ◌||◌, is_some, min, List, [], ◌∷◌, ◌++◌, map, length, Result, Ok, Err, if◌then◌else◌, codes, decimal}
use Rattle.std.specs.List.{flat_map, count_by}
use Rattle.std.specs.Str.{bytes_eq}
use Rattle.fs_calls.specs.Starts.{Start}
use Rattle.fs_timeline.specs.Timeline.{begins}
use Rattle.fs_linearize_histories.specs.declared.heard.Heard.{Heard}
use Rattle.fs_linearize.specs.declared.linearizing.Found.{Found}
use Rattle.fs_linearize.specs.declared.linearizing.Found.TheVariants as found
use Rattle.fs_words.specs.Lines.{lines_of}
use Rattle.fs_words.specs.Headers.{started_header, announced, is_too_long}
use Rattle.fs_words.specs.Reading.{◌>>=◌, fault_at}
use Rattle.fs_words.specs.declared.fault.ScriptFault.{ScriptFault}
use Rattle.fs_words.specs.declared.fault.FaultKind.TheVariants as kind
use Rattle.fs_text.specs.Journal.{journal_header}
use Rattle.fs_linearize_dialects.specs.declared.dialect.Row.{Row}
use Rattle.fs_linearize_text.specs.Texts.{history_by}
use Rattle.fs_linearize_text.specs.Answers.{none_line, fault_line, unknown_line, outcome_of}
use Rattle.fs_linearize_text.specs.declared.answer.Outcome.{Outcome}
use Rattle.fs_linearize_text.specs.declared.answer.Outcome.TheVariants.{Lawful, NoOrder, Fault, Unknown}

-- ---- read

-- whether a line is the first of a history
abbrev pub is_header : List ℕ → Bool
is_header line = bytes_eq line journal_header || is_some (announced started_header line)

-- a line put before pieces of lines: into the first of them, unless that begins with a header line
abbrev pub before_pieces : List ℕ → List (List (List ℕ)) → List (List (List ℕ))
before_pieces line [] = (line ∷ []) ∷ []
before_pieces line ([] ∷ pieces) = (line ∷ []) ∷ pieces
before_pieces line ((first ∷ more) ∷ pieces) = if is_header first then (line ∷ []) ∷ (first ∷ more) ∷ pieces else (line ∷ first ∷ more) ∷ pieces

-- lines, cut before each header line
abbrev pub pieces_of : List (List ℕ) → List (List (List ℕ))
pieces_of [] = []
pieces_of (line ∷ lines) = before_pieces line (pieces_of lines)

-- a fault, so many lines further on; a line's number has 64 bits
abbrev pub further : ℕ → ScriptFault → ScriptFault
further before f = fault_at (min (f.line + before) 18446744073709551615) f.kind

-- what is read of lines, of which so many stand before
abbrev pub behind : {X : Type 0} → ℕ → Result X ScriptFault → Result X ScriptFault
behind before (Ok x) = Ok x
behind before (Err f) = Err (further before f)

-- what reading pieces gives, before which so many lines stand: the first fault is the answer
abbrev pub histories_by : List Row → ℕ → List (List (List ℕ)) → Result (List (Start × List Heard)) ScriptFault
histories_by rows before [] = Ok []
histories_by rows before (piece ∷ pieces) = behind before (history_by rows piece) >>= λ h. histories_by rows (before + length piece) pieces >>= λ hs. Ok (h ∷ hs)

-- what reading a text of histories gives
abbrev pub histories_of : List Row → List ℕ → Result (List (Start × List Heard)) ScriptFault
histories_of rows text = if is_too_long text then Err (fault_at 1 kind.TooLarge) else histories_by rows 0 (pieces_of (lines_of text))

-- ---- written

-- the line of a history: `lawful` and how many calls it has, or why no journal explains it
abbrev pub found_line : Found → List ℕ
found_line (found.Lawful journal) = codes "lawful " ++ (decimal (begins journal.items) ++ codes "\n")
found_line (found.NoOrder place call possible held) = none_line place call
found_line (found.Fault place kind) = fault_line place kind
found_line (found.Unknown place) = unknown_line place

abbrev pub is_same : Outcome → Outcome → Bool
is_same Lawful Lawful = true
is_same NoOrder NoOrder = true
is_same Fault Fault = true
is_same Unknown Unknown = true
is_same one other = false

-- how many histories came to this
abbrev pub count_of : Outcome → List Outcome → ℕ
count_of wanted outcomes = count_by (is_same wanted) outcomes

abbrev pub counts_line : List Outcome → List ℕ
counts_line os = codes "lawful " ++ (decimal (count_of Lawful os) ++ (codes " none " ++ (decimal (count_of NoOrder os) ++ (codes " fault " ++ (decimal (count_of Fault os) ++ (codes " unknown " ++ (decimal (count_of Unknown os) ++ codes "\n")))))))

-- a line for each history, and the counts
abbrev pub many_text : List Found → List ℕ
many_text fs = flat_map found_line fs ++ counts_line (map outcome_of fs)
