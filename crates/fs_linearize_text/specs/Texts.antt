-- What the text of a history tells: a journal without commits, and which replies are left open.
use Rattle.std.specs.Prelude.{ℕ, Bool, ◌&&◌, ◌==◌, List, [], ◌∷◌, ◌++◌, Result, Ok, Err, Option, Some, None, is_some, if◌then◌else◌, codes}
use Rattle.std.specs.List.{flat_map, list_any}
use Rattle.std.specs.Str.{bytes_eq}
use Rattle.fs_calls.specs.Starts.{Start}
use Rattle.fs_calls.specs.declared.errno.Errno.{Errno}
use Rattle.fs_calls.specs.declared.reply.Reply.{Reply}
use Rattle.fs_timeline.specs.declared.entry.Entry.{Entry}
use Rattle.fs_timeline.specs.declared.entry.Entry.TheVariants.{Begin, Commit, Return}
use Rattle.fs_linearize_histories.specs.declared.heard.Heard.{Heard}
use Rattle.fs_linearize_histories.specs.declared.heard.Heard.TheVariants as heard
use Rattle.fs_linearize_histories.specs.declared.heard.Pattern.{Pattern}
use Rattle.fs_linearize_histories.specs.declared.heard.Pattern.TheVariants as pattern
use Rattle.fs_linearize_histories.specs.declared.heard.Pattern.TheVariants.{Exactly, AnyError, OneOf, AnyDirectory}
use Rattle.fs_words.specs.Lines.{lines_of}
use Rattle.fs_words.specs.Headers.{is_too_long}
use Rattle.fs_words.specs.Words.{Word}
use Rattle.fs_words.specs.Reading.{words_of, fault_at, first_is}
use Rattle.fs_words.specs.declared.fault.ScriptFault.{ScriptFault}
use Rattle.fs_words.specs.declared.fault.FaultKind.{FaultKind}
use Rattle.fs_words.specs.declared.fault.FaultKind.TheVariants as kind
use Rattle.fs_script.specs.Journals.{journal_of}
use Rattle.fs_linearize_dialects.specs.Errors.{errors_of}
use Rattle.fs_linearize_dialects.specs.Dialects.{widened}
use Rattle.fs_linearize_dialects.specs.declared.dialect.Row.{Row}
use Rattle.fs_linearize_text.specs.declared.marks.Mark.{Mark}
use Rattle.fs_linearize_text.specs.declared.marks.Mark.TheVariants.{Error, Errors, Directory, Anything}

-- what words leave open: `return N ?`, `return N failed ?`, `return N failed ENOENT|ENOTDIR`, `return N stat dir ?`
abbrev pub leaves_reply : Word → Word → Bool
leaves_reply first last = bytes_eq first (codes "return") && bytes_eq last (codes "?")

abbrev pub is_failure : Word → Word → Bool
is_failure first reply = bytes_eq first (codes "return") && bytes_eq reply (codes "failed")

abbrev pub leaves_size : Word → Word → Word → Word → Bool
leaves_size first reply what last = bytes_eq first (codes "return") && (bytes_eq reply (codes "stat") && (bytes_eq what (codes "dir") && bytes_eq last (codes "?")))

abbrev pub mark_if : Bool → Mark → Option Mark
mark_if is_open mark = if is_open then Some mark else None

-- one error alone leaves nothing open
abbrev pub mark_of_errors : Option (List Errno) → Option Mark
mark_of_errors (Some (e ∷ f ∷ errors)) = Some (Errors (e ∷ f ∷ errors))
mark_of_errors errors = None

abbrev pub is_bar : ℕ → Bool
is_bar b = b == 124

abbrev pub mark_of_error : Word → Option Mark
mark_of_error word = if bytes_eq word (codes "?") then Some Error else (if list_any is_bar word then mark_of_errors (errors_of word) else None)

abbrev pub mark_failed : Bool → Word → Option Mark
mark_failed is_open word = if is_open then mark_of_error word else None

abbrev pub mark_in : List Word → Option Mark
mark_in (first ∷ n ∷ last ∷ []) = mark_if (leaves_reply first last) Anything
mark_in (first ∷ n ∷ reply ∷ last ∷ []) = mark_failed (is_failure first reply) last
mark_in (first ∷ n ∷ reply ∷ what ∷ last ∷ []) = mark_if (leaves_size first reply what last) Directory
mark_in words = None

-- the second word, where there is one
abbrev pub second : List Word → Word
second (first ∷ word ∷ more) = word
second words = []

-- the line of a journal for one of a history: where a reply is left open, `ok` stands; and no entry stands for a commit
abbrev pub plain_by : List Word → List ℕ → List ℕ
plain_by words line =
    if first_is (codes "commit") words then codes "commit"
    else (if is_some (mark_in words) then codes "return " ++ (second words ++ codes " ok") else line)

abbrev pub plain_in : Result (List Word) FaultKind → List ℕ → List ℕ
plain_in (Ok words) line = plain_by words line
plain_in (Err k) line = line

abbrev pub plain_line : List ℕ → List ℕ
plain_line line = plain_in (words_of line) line ++ codes "\n"

abbrev pub plain_text : List (List ℕ) → List ℕ
plain_text lines = flat_map plain_line lines

-- what a line leaves open, if it is that of a Return
abbrev pub mark_by : Result (List Word) FaultKind → List (Option Mark)
mark_by (Ok words) = if first_is (codes "return") words then mark_in words ∷ [] else []
mark_by (Err k) = []

-- what each Return leaves open, by the lines before a line `tree`
abbrev pub marks_in : List (List ℕ) → List (Option Mark)
marks_in [] = []
marks_in (line ∷ more) = if bytes_eq line (codes "tree") then [] else mark_by (words_of line) ++ marks_in more

-- what is known of a reply
abbrev pub known : Option Mark → Reply → Pattern
known (Some Error) r = AnyError
known (Some (Errors errors)) r = OneOf errors
known (Some Directory) r = AnyDirectory
known (Some Anything) r = pattern.Anything
known None r = Exactly r

-- entries as they are heard, each Return by what its line leaves open; a commit is not
abbrev pub heard_by : List Entry → List (Option Mark) → List Heard
heard_by [] marks = []
heard_by (Begin c seat call ∷ es) marks = heard.Begin c seat call ∷ heard_by es marks
heard_by (Commit c ∷ es) marks = heard_by es marks
heard_by (Return c r ∷ es) [] = heard.Return c (Exactly r) ∷ heard_by es []
heard_by (Return c r ∷ es) (mark ∷ marks) = heard.Return c (known mark r) ∷ heard_by es marks

-- the start tree and the entries of a history
abbrev pub with_marks : List (Option Mark) → Result (Start × List Entry) ScriptFault → Result (Start × List Heard) ScriptFault
with_marks marks (Ok journal) = Ok (journal.0, heard_by journal.1 marks)
with_marks marks (Err f) = Err f

-- the same as it is read by a table
abbrev pub with_table : List Row → Result (Start × List Heard) ScriptFault → Result (Start × List Heard) ScriptFault
with_table rows (Ok h) = Ok (h.0, widened rows h.1)
with_table rows (Err f) = Err f

-- what reading the lines of a history gives, by a table of what its tree replies
abbrev pub history_by : List Row → List (List ℕ) → Result (Start × List Heard) ScriptFault
history_by rows lines = with_table rows (with_marks (marks_in lines) (journal_of (plain_text lines)))

-- what reading its text gives
abbrev pub history_of : List Row → List ℕ → Result (Start × List Heard) ScriptFault
history_of rows text = if is_too_long text then Err (fault_at 1 kind.TooLarge) else history_by rows (lines_of text)
