-- Lines of ends that are added up.
use Rattle.std.specs.Prelude.{ℕ, ◌≡◌, List, map}
use Rattle.fs_words.specs.Lines.{lines_of}
use Rattle.fs_sched_outcomes.specs.Lines.{added_line, added_text}
use Rattle.fs_sched_outcomes.specs.Sums.{AddsUp, AreInOrder}
use Rattle.fs_sched_outcomes.specs.declared.lines.Form.{Form}
use Rattle.fs_sched_outcomes.specs.declared.rows.Row.{Row}

-- the lines of an input are those of rows, byte for byte, and a text has those of rows that add them up
abbrev pub AreAdded : Form → List ℕ → List ℕ → Type 0
AreAdded form input text =
    (labels : List (List ℕ)) × (given rows : List Row) × (lines_of input ≡ map (added_line labels) given) × AddsUp given rows × AreInOrder rows × (text ≡ added_text form labels rows)
