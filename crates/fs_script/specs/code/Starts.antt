-- The lines of a start tree while they are read.
use Rattle.std.specs.Prelude.{◌≡◌, ℕ, List, [], ◌∷◌, ◌++◌, length, Result, Ok, Err, Option, Some, None, MatchResult, if◌then◌else◌}
use Rattle.fs_names.specs.Keys.{Key}
use Rattle.fs_names.specs.declared.limits.Limits.{Limits}
use Rattle.fs_names.specs.declared.kind.Kind.{Kind}
use Rattle.fs_names.specs.declared.kind.Kind.TheVariants.{Dir}
use Rattle.fs_calls.specs.Tree.{Tree, root_tree}
use Rattle.fs_calls.specs.Starts.{Start}
use Rattle.fs_timeline.specs.declared.entry.Entry.{Entry}
use Rattle.fs_seq.specs.declared.rows.Row.{Row}
use Rattle.fs_seq.specs.Rows.{key_of, row_of, fits}
use Rattle.fs_words.specs.Reading.{fault_at}
use Rattle.fs_words.specs.declared.fault.ScriptFault.{ScriptFault}
use Rattle.fs_words.specs.declared.fault.FaultKind.{FaultKind}
use Rattle.fs_words.specs.declared.fault.FaultKind.TheVariants as kind
use Rattle.fs_words.specs.code.Answers.{FailsThere}
use Rattle.fs_words.specs.code.LinesLeft.{LinesLeft}
use Rattle.fs_text.specs.Journal.{entries_from}
use Rattle.fs_script.specs.Journals.{Read, with_start, started_from, behind_line}
use Rattle.fs_script.specs.declared.journal.End.{End}
use Rattle.fs_script.specs.declared.journal.End.TheVariants.{Entries, Wrong}
use Rattle.fs_script.specs.declared.journal.Journal.{Journal}

-- the key, the kind and the bytes of a row
abbrev pub node_of_row : Row → Key × Kind × List ℕ
node_of_row row = (key_of row, row.kind, row.bytes.items)

-- a row is told where a line tells its node, and none where the line tells no node
abbrev pub IsToldBy : Option Row → Result (Key × Kind × List ℕ) FaultKind → Type 0
IsToldBy (Some row) told = told ≡ Ok (node_of_row row)
IsToldBy None told = (k : FaultKind) × (told ≡ Err k)

-- a start of these limits
abbrev pub starting : Limits → Tree → Start
starting limits t = record { limits = limits; tree = t }

-- what is read behind lines of these numbers that told these rows: the first row that does not fit is the answer
abbrev pub behind_rows : Limits → Tree → List ℕ → List Row → (Start → Read) → Read
behind_rows limits t ns [] rest = rest (starting limits t)
behind_rows limits t [] (row ∷ rows) rest = rest (starting limits t)
behind_rows limits t (n ∷ ns) (row ∷ rows) rest = if fits limits t row then behind_rows limits (t ++ row_of row ∷ []) ns rows rest else Err (fault_at n kind.BadStart)

-- what is read at the end of the rows, where they made a tree
abbrev pub read_end : End → LinesLeft → Start → Read
read_end Entries left start = with_start start (entries_from start.limits left.number left.lines)
read_end (Wrong n) left start = Err (fault_at n kind.BadStart)

-- rows were added, each with its number, and this is read behind them
pub record AreTaken (limits : Limits) (old : LinesLeft) (before after : List Row) (numbers : List ℕ) (rest : Start → Read) : Type 0 where
  pub more : List Row
  pub added : after ≡ before ++ more
  pub each : length numbers ≡ length more
  pub read : (t : Tree) → started_from limits t old.number old.lines ≡ behind_rows limits t numbers more rest

-- a line was taken that had to be this one
abbrev pub Expects : List ℕ → LinesLeft → Result (Unit {0}) ScriptFault → LinesLeft → Type 0
Expects wanted old result new =
    (read : ℕ → List (List ℕ) → Read) → MatchResult result (λ u. behind_line wanted read old.number old.lines ≡ read new.number new.lines) (λ f. behind_line wanted read old.number old.lines ≡ Err f)

-- a row is the root's
abbrev pub IsRootRow : Row → Type 0
IsRootRow root = node_of_row root ≡ ([], Dir, [])

-- the row of the root, alone
abbrev pub IsRootAlone : List Row → Type 0
IsRootAlone rows = (root : Row) × IsRootRow root × (rows ≡ root ∷ [])

-- the first row is the root's, and there is a number for each of the others
abbrev pub AreNumbered : List Row → List ℕ → Type 0
AreNumbered rows numbers = (root : Row) × (more : List Row) × IsRootRow root × (rows ≡ root ∷ more) × (length numbers ≡ length more)

-- the rows make a tree, on which is read what stands behind them, or the fault is theirs
abbrev pub MakesTree : Limits → List Row → List ℕ → Result Start ScriptFault → Type 0
MakesTree limits [] numbers result = Unit {0}
MakesTree limits (root ∷ more) numbers result =
    (rest : Start → Read) → MatchResult result (λ start. behind_rows limits root_tree numbers more rest ≡ rest start) (λ f. FailsThere f.line f.kind (behind_rows limits root_tree numbers more rest))

-- a journal as its start and its entries
abbrev pub journal_seen : Journal → Start × List Entry
journal_seen journal = (journal.start, journal.entries.items)
