-- Journals that start at a tree, by each set of limits: how one is written, and what reading one gives.
use Rattle.std.specs.Prelude.{ℕ, ◌+◌, ◌-◌, max, nat_lt, slice_index, take, drop, Bool, true, not, ◌==◌, List, [], ◌∷◌, ◌++◌, length, Result, Ok, Err, Option, Some, None, if◌then◌else◌, codes}
use Rattle.std.specs.List.{flat_map, join_with_byte, slice_split}
use Rattle.std.specs.Str.{bytes_eq}
use Rattle.fs_names.specs.Keys.{Key}
use Rattle.fs_names.specs.Limits.{same_limits}
use Rattle.fs_names.specs.declared.limits.Limits.{Limits}
use Rattle.fs_names.specs.declared.limits.Limits.TheVariants.{V1}
use Rattle.fs_names.specs.Reading.{is_slash}
use Rattle.fs_names.specs.declared.kind.Kind.{Kind}
use Rattle.fs_names.specs.declared.kind.Kind.TheVariants.{Dir, File}
use Rattle.fs_calls.specs.Tree.{Tree, root_tree}
use Rattle.fs_calls.specs.Starts.{Start, root_start}
use Rattle.fs_timeline.specs.declared.entry.Entry.{Entry}
use Rattle.fs_seq.specs.Rows.{node_of_kind, fits_at}
use Rattle.fs_words.specs.Lines.{is_passed_over, lines_of}
use Rattle.fs_words.specs.Words.{Word}
use Rattle.fs_words.specs.Reading.{◌>>=◌, hex_at, words_of, fault_at, behind_first, headed}
use Rattle.fs_words.specs.declared.fault.ScriptFault.{ScriptFault}
use Rattle.fs_words.specs.declared.fault.FaultKind.{FaultKind}
use Rattle.fs_words.specs.declared.fault.FaultKind.TheVariants as kind
use Rattle.fs_text.specs.Journal.{journal_header, entry_line, names_at, entries_from, entries_of}
use Rattle.fs_words.specs.Headers.{started_header, announced}
use Rattle.fs_script.specs.TreeText.{node_words, node_line}

-- ---- written

-- whether a start tree of so many nodes is told: by the first limits where it is more than the root alone, by all others always
abbrev pub is_told : Limits → ℕ → Bool
is_told V1 nodes = not (nodes == 1)
is_told limits nodes = true

-- what stands before the entries
unfoldable pub opening : Start → List ℕ
opening start =
    if is_told start.limits (length start.tree)
    then started_header start.limits ++ codes "\nstart\n" ++ flat_map node_line start.tree ++ codes "entries\n"
    else journal_header ++ codes "\n"

-- the journal of entries from a start
abbrev pub journal_text : Start → List Entry → List ℕ
journal_text start es = opening start ++ flat_map entry_line es

-- ---- read

-- the key that a word spells, as a path of any number of names by these limits: what stands behind each slash
abbrev pub key_at : Limits → Word → Result Key FaultKind
key_at limits word = if bytes_eq word (codes "/") then Ok [] else names_at limits (behind_first (slice_split is_slash word))

-- the key, the kind and the bytes of a file, by two words
abbrev pub file_at : Limits → Word → Word → Result (Key × Kind × List ℕ) FaultKind
file_at limits path hex = key_at limits path >>= λ key. hex_at hex >>= λ bytes. Ok (key, File, bytes)

-- those of a node that words could tell: a directory by two, a file by three
abbrev pub node_at : Limits → List Word → Result (Key × Kind × List ℕ) FaultKind
node_at limits (k ∷ path ∷ []) = key_at limits path >>= λ key. Ok (key, Dir, [])
node_at limits (k ∷ path ∷ hex ∷ []) = file_at limits path hex
node_at limits _ = Err kind.BadStart

-- the node that a line tells: the line has to be the very one that is written of it
abbrev pub node_in_line : Limits → List ℕ → Result (Key × Kind × List ℕ) FaultKind
node_in_line limits line = words_of line >>= node_at limits >>= λ n. if bytes_eq line (join_with_byte 32 (node_words n.0 (node_of_kind n.1 n.2))) then Ok n else Err kind.BadStart

-- the tree with one node more, where it fits by these limits
abbrev pub grown : Limits → Tree → Key × Kind × List ℕ → Result Tree FaultKind
grown limits t n = if fits_at limits t n.0 n.1 n.2 then Ok (t ++ (n.0, node_of_kind n.1 n.2) ∷ []) else Err kind.BadStart

-- whatever is wrong with a line of a start tree, the fault is the same
abbrev pub in_start : {X : Type 0} → ℕ → Result X FaultKind → Result X ScriptFault
in_start n (Ok x) = Ok x
in_start n (Err k) = Err (fault_at n kind.BadStart)

-- a start and entries
abbrev pub Read : Type 0
Read = Result (Start × List Entry) ScriptFault

-- what is read of entries, with the start at which they begin
abbrev pub with_start : Start → Result (List Entry) ScriptFault → Read
with_start start entries = entries >>= λ es. Ok (start, es)

-- what the lines from this number on tell by these limits, where those before them made a tree: nodes, and behind the line `entries` entries
unfoldable pub started_from : Limits → Tree → ℕ → List (List ℕ) → Read
started_from limits t n [] = Err (fault_at n kind.BadStart)
started_from limits t n (line ∷ more) =
    if is_passed_over line then started_from limits t (n + 1) more
    else (if bytes_eq line (codes "entries") then with_start (record { limits = limits; tree = t }) (entries_from limits (n + 1) more)
    else (in_start n (node_in_line limits line >>= grown limits t) >>= λ u. started_from limits u (n + 1) more))

-- what the lines tell behind the first that is not passed over, which has to be this one
unfoldable pub behind_line : List ℕ → (ℕ → List (List ℕ) → Read) → ℕ → List (List ℕ) → Read
behind_line wanted read n [] = Err (fault_at n kind.BadStart)
behind_line wanted read n (line ∷ more) =
    if is_passed_over line then behind_line wanted read (n + 1) more
    else (if bytes_eq line wanted then read (n + 1) more else Err (fault_at n kind.BadStart))

-- what the lines tell behind the header that announces a start tree and these limits
abbrev pub started_lines : Limits → List (List ℕ) → Read
started_lines limits lines = behind_line (codes "start") (behind_line (codes "dir /") (started_from limits root_tree)) 2 lines

-- what a text tells with lines behind one that announces these limits and a start tree; where it announces none the text starts at the root
abbrev pub announced_journal : List ℕ → Option Limits → List (List ℕ) → Read
announced_journal text None lines = with_start (root_start V1) (entries_of text)
announced_journal text (Some limits) lines = started_lines limits lines

-- what a text tells with this first line, and these behind it
abbrev pub journal_behind : List ℕ → List ℕ × List (List ℕ) → Read
journal_behind text (first, lines) = announced_journal text (announced started_header first) lines

-- what reading a journal text gives, of any version: its start, and its entries
unfoldable pub journal_of : List ℕ → Read
journal_of text = headed text >>= journal_behind text

-- ---- a tree alone

-- whether bytes end with the end of a line
abbrev pub ends_line : List ℕ → Bool
ends_line bytes = slice_index bytes (length bytes - 1) == 10

-- the end of a last line that has none
abbrev pub line_end : List ℕ → List ℕ
line_end bytes = if length bytes == 0 then [] else if ends_line bytes then [] else codes "\n"

-- the journal without entries that starts at the tree of these lines
abbrev pub nodes_journal : Limits → List ℕ → List ℕ
nodes_journal limits nodes = started_header limits ++ codes "\nstart\n" ++ nodes ++ line_end nodes ++ codes "entries\n"

-- its start, where each line of a fault is one less, since a tree has one line before its nodes and a journal two
abbrev pub start_read : Read → Result Start ScriptFault
start_read (Ok read) = Ok (read.0)
start_read (Err f) = Err (fault_at (max (f.line - 1) 1) f.kind)

-- the number of the first line `entries`, where the first of the lines has this number
abbrev pub entries_line : ℕ → List (List ℕ) → Option ℕ
entries_line n [] = None
entries_line n (line ∷ more) = if bytes_eq line (codes "entries") then Some n else entries_line (n + 1) more

-- such a line ends the nodes of a journal, and a tree has none: it is the fault, unless a line before it is
abbrev pub before_entries : Option ℕ → Result Start ScriptFault → Result Start ScriptFault
before_entries None read = read
before_entries (Some n) (Ok start) = Err (fault_at n kind.BadStart)
before_entries (Some n) (Err f) = if nat_lt f.line n then Err f else Err (fault_at n kind.BadStart)

-- what the lines of nodes give by these limits, behind a line `tree`: the start of the journal of these nodes
abbrev pub nodes_read : Limits → List ℕ → Result Start ScriptFault
nodes_read limits nodes = before_entries (entries_line 2 (lines_of nodes)) (start_read (journal_of (nodes_journal limits nodes)))

-- a text that is the word `tree` alone has no root, and any other one gives this
abbrev pub unless_alone : List ℕ → Result Start ScriptFault → Result Start ScriptFault
unless_alone text other = if bytes_eq text (codes "tree") then Err (fault_at 2 kind.BadStart) else other

-- what reading the text of a tree by these limits gives
unfoldable pub tree_of : Limits → List ℕ → Result Start ScriptFault
tree_of limits text = if bytes_eq (take 5 text) (codes "tree\n") then nodes_read limits (drop 5 text) else unless_alone text (Err (fault_at 1 kind.BadHeader))

-- the start at which a journal by these limits begins: one by others has another first line
abbrev pub by_limits : Limits → Read → Result Start ScriptFault
by_limits limits (Ok read) = if same_limits limits read.0.limits then Ok (read.0) else Err (fault_at 1 kind.BadHeader)
by_limits limits (Err f) = Err f

-- what reading the tree gives at which something starts by these limits: from the text of a tree, or from that of a journal
abbrev pub start_of : Limits → List ℕ → Result Start ScriptFault
start_of limits text =
    if bytes_eq (take 5 text) (codes "tree\n") then nodes_read limits (drop 5 text) else unless_alone text (by_limits limits (journal_of text))
