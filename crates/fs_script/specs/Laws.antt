-- What holds of scripts and of journals with start trees.
use Rattle.std.specs.Prelude.{ℕ, ◌≡◌, ◌≤◌, true, List, length, Ok}
use Rattle.std.specs.List.{AllByRecursion}
use Rattle.fs_names.specs.Names.{AreBytes}
use Rattle.fs_names.specs.Keys.{Key}
use Rattle.fs_names.specs.declared.limits.Limits.{Limits}
use Rattle.fs_calls.specs.Tree.{Node, Dir, File}
use Rattle.fs_calls.specs.Starts.{Start}
use Rattle.fs_timeline.specs.declared.entry.Entry.{Entry}
use Rattle.fs_seq.specs.Rows.{IsWithinLimits as IsTreeWithinLimits}
use Rattle.fs_words.specs.Headers.{text_limit}
use Rattle.fs_text.specs.Fits.{FitsName, AllFit}
use Rattle.fs_script.specs.TreeText.{tree_text}
use Rattle.fs_script.specs.Journals.{is_told, opening, journal_text, journal_of, tree_of}
use Rattle.fs_script.specs.Script.{script_of}
use Rattle.fs_script.specs.Limits.{IsWithinLimits}
use Rattle.fs_script.specs.declared.script.Script.{Script}

-- each script that is read keeps the limits
abbrev pub KeepsLimits : Type 0
KeepsLimits = (input : List ℕ) (script : Script) → script_of input ≡ Ok script → IsWithinLimits script

-- the names of a node, by these limits, and its bytes
abbrev pub FitsNode : Limits → Key × Node → Type 0
FitsNode limits (key, Dir) = AllByRecursion (FitsName limits) key
FitsNode limits (key, File bytes) = AllByRecursion (FitsName limits) key × AreBytes bytes

-- a start tree within its limits; where it is told, its nodes have such names and bytes
pub record FitsStart (start : Start) : Type 0 where
  pub within : IsTreeWithinLimits start.limits start.tree
  pub told : is_told start.limits (length start.tree) ≡ true → AllByRecursion (FitsNode start.limits) start.tree

-- a journal that was written is read again as the same start and the same entries, where their names keep its limit
abbrev pub ReadsJournalsBack : Type 0
ReadsJournalsBack = (start : Start) (es : List Entry) → FitsStart start → AllFit start.limits es → length (journal_text start es) ≤ text_limit start.limits → journal_of (journal_text start es) ≡ Ok (start, es)

-- a tree whose text was written is read again as the same tree, where its names keep the limit
abbrev pub ReadsTreesBack : Type 0
ReadsTreesBack = (start : Start) → FitsStart start → is_told start.limits (length start.tree) ≡ true → length (opening start) ≤ text_limit start.limits → tree_of start.limits (tree_text start.tree) ≡ Ok start
