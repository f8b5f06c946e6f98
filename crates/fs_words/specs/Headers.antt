-- The first lines of scripts, and of journals that tell their start tree; and how long a text may be, by its first line.
use Rattle.std.specs.Prelude.{ℕ, Bool, nat_lt, List, [], ◌∷◌, length, Option, Some, None, find, if◌then◌else◌, codes}
use Rattle.std.specs.Str.{bytes_eq}
use Rattle.fs_names.specs.Limits.{largest}
use Rattle.fs_names.specs.declared.limits.Limits.{Limits}
use Rattle.fs_names.specs.declared.limits.Limits.TheVariants.{V1, V2, V3}
use Rattle.fs_words.specs.Lines.{lines_of}
use Rattle.fs_words.specs.declared.limits.TheConstants.{SETS}

-- the first line of a script, by the limits that it announces
abbrev pub script_header : Limits → List ℕ
script_header V1 = codes "atomfs 1"
script_header V2 = codes "atomfs 2"
script_header V3 = codes "atomfs 3"

-- that of a journal that tells its start tree
abbrev pub started_header : Limits → List ℕ
started_header V1 = codes "atomfs-journal 2"
started_header V2 = codes "atomfs-journal 3"
started_header V3 = codes "atomfs-journal 4"

-- the limits that a line announces by such headers, if it is one of them
abbrev pub announced : (Limits → List ℕ) → List ℕ → Option Limits
announced header line = find (λ limits. bytes_eq line (header limits)) SETS

-- the most bytes of a text, by its limits
abbrev pub text_limit : Limits → ℕ
text_limit V1 = 16777216
text_limit V2 = 16777216
text_limit V3 = 1073741824

-- that of a text whose first line announces these limits, as a script's or as a journal's
abbrev pub limit_by : Option Limits → Option Limits → ℕ
limit_by (Some limits) journal = text_limit limits
limit_by None (Some limits) = text_limit limits
limit_by None None = text_limit V1

-- that of a text with this first line; a tree is read by any limits, so its text may be as long as the largest allow
abbrev pub limit_of_line : List ℕ → ℕ
limit_of_line line = if bytes_eq line (codes "tree") then text_limit largest else limit_by (announced script_header line) (announced started_header line)

abbrev pub limit_of_lines : List (List ℕ) → ℕ
limit_of_lines [] = text_limit V1
limit_of_lines (line ∷ more) = limit_of_line line

-- the most bytes that a text may have, by its own first line
abbrev pub limit_of_text : List ℕ → ℕ
limit_of_text text = limit_of_lines (lines_of text)

-- whether a text has more
abbrev pub is_too_long : List ℕ → Bool
is_too_long text = nat_lt (limit_of_text text) (length text)
