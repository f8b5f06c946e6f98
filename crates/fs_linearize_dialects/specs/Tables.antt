-- Tables as texts.
use Rattle.std.specs.Prelude.{ℕ, ◌+◌, Bool, ◌&&◌, ◌==◌, List, [], ◌∷◌, ◌++◌, map, Option, Some, None, Result, Ok, Err, if◌then◌else◌, codes}
use Rattle.std.specs.List.{list_any}
use Rattle.std.specs.Str.{bytes_eq}
use Rattle.fs_calls.specs.Replies.{number_of}
use Rattle.fs_calls.specs.declared.errno.Errno.{Errno}
use Rattle.fs_linearize_histories.specs.Heard.{has_error}
use Rattle.fs_words.specs.Lines.{lines_of, is_passed_over}
use Rattle.fs_words.specs.Words.{Word}
use Rattle.fs_words.specs.Reading.{◌>>=◌, words_of}
use Rattle.fs_words.specs.declared.fault.FaultKind.{FaultKind}
use Rattle.fs_text.specs.Journal.{errno_of}
use Rattle.fs_linearize_dialects.specs.Names.{name_at, same_name}
use Rattle.fs_linearize_dialects.specs.Errors.{errors_of}
use Rattle.fs_linearize_dialects.specs.declared.call_name.CallName.{CallName}
use Rattle.fs_linearize_dialects.specs.declared.dialect.Row.{Row}
use Rattle.fs_linearize_dialects.specs.declared.fault.TableFault.{TableFault}
use Rattle.fs_linearize_dialects.specs.declared.fault.TableFault.TheVariants.{BadHeader, BadRow, SameError, RowTwice}
use Rattle.fs_linearize_dialects.specs.declared.fault.DialectFault.{DialectFault}

-- a row is about this call and what this tree replies
abbrev pub is_about : CallName → Errno → Row → Bool
is_about name ours row = same_name row.call name && (number_of row.ours == number_of ours)

-- the rows of a line
abbrev pub rows_of : CallName → Errno → List Errno → List Row
rows_of name ours theirs = map (λ e. record { call = name; ours = ours; theirs = e }) theirs

-- rows with those of one line more: no two lines are about one call and error, and in no row both trees reply the same
abbrev pub with_rows : List Row → CallName → Errno → List Errno → Result (List Row) TableFault
with_rows rows name ours theirs = if list_any (is_about name ours) rows then Err RowTwice else (if has_error ours theirs then Err SameError else Ok (rows ++ rows_of name ours theirs))

-- what is found, or no row
abbrev pub or_bad : {X : Type 0} → Option X → Result X TableFault
or_bad (Some x) = Ok x
or_bad None = Err BadRow

-- rows with those that three words are: a call, what this tree replies, what the other does
abbrev pub with_three : List Row → Word → Word → Word → Result (List Row) TableFault
with_three rows call ours theirs = or_bad (name_at call) >>= λ name. or_bad (errno_of ours) >>= λ e. or_bad (errors_of theirs) >>= λ errors. with_rows rows name e errors

abbrev pub with_words : List Row → List Word → Result (List Row) TableFault
with_words rows (call ∷ ours ∷ theirs ∷ []) = with_three rows call ours theirs
with_words rows words = Err BadRow

abbrev pub with_words_in : List Row → Result (List Word) FaultKind → Result (List Row) TableFault
with_words_in rows (Ok words) = with_words rows words
with_words_in rows (Err k) = Err BadRow

-- rows with those of a line, which may be empty or a comment
abbrev pub with_line : List Row → List ℕ → Result (List Row) TableFault
with_line rows line = if is_passed_over line then Ok rows else with_words_in rows (words_of line)

-- a fault in the line of this number
abbrev pub in_line : {X : Type 0} → ℕ → Result X TableFault → Result X DialectFault
in_line n (Ok x) = Ok x
in_line n (Err k) = Err (record { line = n; kind = k })

-- rows with those of lines, of which the first has this number: the first fault is the answer
abbrev pub with_lines : ℕ → List Row → List (List ℕ) → Result (List Row) DialectFault
with_lines n rows [] = Ok rows
with_lines n rows (line ∷ lines) = in_line n (with_line rows line) >>= λ more. with_lines (n + 1) more lines

-- the rows of a text, by its lines
abbrev pub rows_by : List (List ℕ) → Result (List Row) DialectFault
rows_by [] = Err (record { line = 1; kind = BadHeader })
rows_by (first ∷ lines) = if bytes_eq first (codes "atomfs-dialect 1") then with_lines 2 [] lines else Err (record { line = 1; kind = BadHeader })

abbrev pub rows_in : List ℕ → Result (List Row) DialectFault
rows_in text = rows_by (lines_of text)
