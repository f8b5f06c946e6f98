-- The table that rows make: each once, by its call and what this tree replies.
use Rattle.std.specs.Prelude.{ℕ, Bool, List, [], ◌∷◌, ◌++◌, codes, decimal}
use Rattle.std.specs.List.{flat_map, filter, list_any, count_by}
use Rattle.fs_calls.specs.declared.errno.Errno.{Errno}
use Rattle.fs_text.specs.Journal.{errno_word}
use Rattle.fs_linearize_dialects.specs.Names.{name_word}
use Rattle.fs_linearize_dialects.specs.Errors.{errors_word}
use Rattle.fs_linearize_dialects.specs.Tables.{rows_of}
use Rattle.fs_linearize_dialects.specs.declared.call_name.CallName.{CallName}
use Rattle.fs_linearize_dialects.specs.declared.call_name.TheConstants.{NAMES}
use Rattle.fs_linearize_dialects.specs.declared.errors.TheConstants.{ERRNOS}
use Rattle.fs_linearize_dialects.specs.declared.dialect.Row.{Row}
use Rattle.fs_linearize_dialects.specs.Learning.{is_row}

-- how often a row is among rows
abbrev pub times : CallName → Errno → List Row → Errno → ℕ
times name ours rows theirs = count_by (is_row name ours theirs) rows

-- whether it is
abbrev pub is_seen : CallName → Errno → List Row → Errno → Bool
is_seen name ours rows theirs = list_any (is_row name ours theirs) rows

-- the errors of the other tree that rows have for a call and what this tree replies
abbrev pub errors_seen : CallName → Errno → List Row → List Errno
errors_seen name ours rows = filter (is_seen name ours rows) ERRNOS

-- the rows of a table that are about a call, and about what this tree replies to it
abbrev pub proposed_for : List Row → CallName → Errno → List Row
proposed_for rows name ours = rows_of name ours (errors_seen name ours rows)

abbrev pub proposed_of : List Row → CallName → List Row
proposed_of rows name = flat_map (proposed_for rows name) ERRNOS

-- the rows of the table
abbrev pub proposed : List Row → List Row
proposed rows = flat_map (proposed_of rows) NAMES

-- a comment says how often each error was seen
abbrev pub times_words : CallName → Errno → List Row → Errno → List ℕ
times_words name ours rows theirs = codes " " ++ (errno_word theirs ++ (codes " " ++ decimal (times name ours rows theirs)))

abbrev pub times_line : CallName → Errno → List Row → List Errno → List ℕ
times_line name ours rows errors = codes "# times:" ++ (flat_map (times_words name ours rows) errors ++ codes "\n")

-- the line of rows
abbrev pub row_line : CallName → Errno → List Errno → List ℕ
row_line name ours errors = name_word name ++ (codes " " ++ (errno_word ours ++ (codes " " ++ (errors_word errors ++ codes "\n"))))

-- the comment before that line, if there are rows
abbrev pub both_lines : CallName → Errno → List Row → List Errno → List ℕ
both_lines name ours rows errors = times_line name ours rows errors ++ row_line name ours errors

abbrev pub line_with : CallName → Errno → List Row → List Errno → List ℕ
line_with name ours rows [] = []
line_with name ours rows (e ∷ errors) = both_lines name ours rows (e ∷ errors)

abbrev pub line_for : List Row → CallName → Errno → List ℕ
line_for rows name ours = line_with name ours rows (errors_seen name ours rows)

abbrev pub lines_of : List Row → CallName → List ℕ
lines_of rows name = flat_map (line_for rows name) ERRNOS

-- the text of the table
abbrev pub table_text : List Row → List ℕ
table_text rows = codes "atomfs-dialect 1\n" ++ flat_map (lines_of rows) NAMES
