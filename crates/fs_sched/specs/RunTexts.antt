-- The text of a run.
use Rattle.std.specs.Prelude.{ℕ, ◌≡◌, Bool, true, false, List, ◌++◌, codes, decimal}
use Rattle.std.specs.List.{count_by}
use Rattle.fs_timeline.specs.declared.entry.Entry.{Entry}
use Rattle.fs_timeline.specs.declared.entry.Entry.TheVariants.{Begin, Commit, Return}
use Rattle.fs_sched.specs.declared.run_texts.EntryKind.{EntryKind}
use Rattle.fs_sched.specs.declared.run_texts.EntryKind.TheVariants as kind
use Rattle.fs_calls.specs.Tree.{Tree}
use Rattle.fs_calls.specs.Starts.{Start}
use Rattle.fs_nodes.specs.Graphs.{Graph}
use Rattle.fs_script.specs.Journals.{journal_text}
use Rattle.fs_script.specs.TreeText.{tree_text, IsSpelled}

-- whether an entry is of a kind
abbrev pub is_of : EntryKind → Entry → Bool
is_of kind.Begin (Begin c s call) = true
is_of kind.Commit (Commit c) = true
is_of kind.Return (Return c r) = true
is_of k e = false

-- how many entries of a kind there are
abbrev pub number_of : EntryKind → List Entry → ℕ
number_of k es = count_by (is_of k) es

-- the numbers of entries of each kind
abbrev pub counts_line : ℕ → ℕ → ℕ → List ℕ
counts_line b c r = codes "begun " ++ (decimal b ++ (codes " committed " ++ (decimal c ++ (codes " returned " ++ (decimal r ++ codes "\n")))))

-- the last line of a run
abbrev pub end_line : List Entry → List ℕ
end_line es = counts_line (number_of kind.Begin es) (number_of kind.Commit es) (number_of kind.Return es)

-- the journal of the entries from a start, the tree, and the last line
abbrev pub run_text : Start → List Entry → Tree → List ℕ
run_text start es t = journal_text start es ++ (tree_text t ++ end_line es)

-- the text of a run whose last piece began at this start and ended with these entries and nodes
abbrev pub IsRunText : Start → List Entry → Graph → List ℕ → Type 0
IsRunText start es graph text = (t : Tree) × IsSpelled graph t × (text ≡ run_text start es t)
