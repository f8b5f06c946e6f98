-- The fault of a run from a tree, and the status after it.
use Rattle.std.specs.Prelude.{ℕ, ◌≡◌, ◌+◌, ◌<◌, ◌⊎◌, max, List, [], ◌∷◌, length, take, slice_get, if◌then◌else◌, codes, Ok, Err, Some}
use Rattle.std.specs.Str.{bytes_eq}
use Rattle.fs_names.specs.Limits.{node_limit}
use Rattle.fs_names.specs.declared.limits.Limits.{Limits}
use Rattle.fs_calls.specs.Starts.{Start}
use Rattle.fs_words.specs.Lines.{lines_of, is_passed_over}
use Rattle.fs_words.specs.Reading.{fault_at}
use Rattle.fs_words.specs.declared.fault.ScriptFault.{ScriptFault}
use Rattle.fs_words.specs.declared.fault.FaultKind.{FaultKind}
use Rattle.fs_words.specs.declared.fault.FaultKind.TheVariants as kind
use Rattle.fs_script.specs.Journals.{start_of}
use Rattle.fs_sched.specs.Faults.{status_of_fault}
use Rattle.fs_verdict.specs.declared.fault.RunFault.TheVariants.{OutOfMemory}
use Rattle.fs_sched_start.specs.declared.fault.StartFault.{StartFault}
use Rattle.fs_sched_start.specs.declared.fault.StartFault.TheVariants.{Run, Tree}

-- a tree that is none is bad input
abbrev pub status_of_start : StartFault → ℕ
status_of_start (Run f) = status_of_fault f
status_of_start (Tree f) = 3

-- a fault as it is told: that of a whole text is at its first line
abbrev pub told_fault : ScriptFault → ScriptFault
told_fault f = fault_at (max 1 f.line) f.kind

-- out of memory is no fault of the text
abbrev pub by_kind : ScriptFault → FaultKind → StartFault
by_kind f kind.OutOfMemory = Run OutOfMemory
by_kind f k = Tree (told_fault f)

-- the fault of a run at whose tree's text this fault is
abbrev pub tree_fault_of : ScriptFault → StartFault
tree_fault_of f = by_kind f f.kind

-- the numbers of the lines that are neither empty nor comments, where the first line has this number
abbrev pub told_lines : ℕ → List (List ℕ) → List ℕ
told_lines n [] = []
told_lines n (line ∷ more) = if is_passed_over line then told_lines (n + 1) more else n ∷ told_lines (n + 1) more

-- how many of them stand before the nodes: the line `tree`, or the header of a journal and the line `start`
abbrev pub lines_before : List ℕ → ℕ
lines_before text = if bytes_eq (take 5 text) (codes "tree\n") then 1 else 2

-- a line tells the first node for which there is no number by these limits
abbrev pub IsNodeTooMany : Limits → List ℕ → ℕ → Type 0
IsNodeTooMany limits text line = slice_get (told_lines 1 (lines_of text)) (lines_before text + node_limit limits) ≡ Some line

-- no tree within these limits is read from a text: it has this fault, or the tree has more nodes than there are numbers, at the line of the first too many
abbrev pub IsTreeFault : Limits → List ℕ → ScriptFault → Type 0
IsTreeFault limits text f =
    ((g : ScriptFault) × (start_of limits text ≡ Err g) × (f ≡ told_fault g))
    ⊎ ((start : Start) × (start_of limits text ≡ Ok start) × (node_limit limits < length start.tree) × (f.kind ≡ kind.TooLarge) × IsNodeTooMany limits text f.line)

-- the same of a text whose tree is there
abbrev pub IsTooLarge : Limits → List ℕ → StartFault → Type 0
IsTooLarge limits text (Tree f) = (f.kind ≡ kind.TooLarge) × IsNodeTooMany limits text f.line
IsTooLarge limits text (Run f) = ⊥
