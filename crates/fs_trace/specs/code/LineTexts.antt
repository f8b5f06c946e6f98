-- What is added to the text of a trace, and its part up to the tree.
use Rattle.std.specs.Prelude.{ℕ, ◌≡◌, Bool, List, [], ◌++◌, map, codes}
use Rattle.std.specs.List.{flat_map}
use Rattle.fs_trace_story.specs.Shown.{Saying}
use Rattle.fs_trace.specs.Traces.{thread_line, line_head, AreLines, heads_shown}
use Rattle.fs_trace.specs.declared.trace_text.TraceLines.{TraceLines}
use Rattle.fs_sched_witness.specs.declared.moments.Moment.{Moment}

-- a text has a line behind it that begins so
abbrev pub AddsLine : List ℕ → List ℕ → List ℕ → Type 0
AddsLine head old new = (words : List ℕ) × (new ≡ old ++ (head ++ (words ++ codes "\n")))

-- a text has lines behind it that begin so
abbrev pub AddsLines : List (List ℕ) → List ℕ → List ℕ → Type 0
AddsLines heads old new = (lines : List ℕ) × AreLines heads lines × (new ≡ old ++ lines)

-- a trace before its first line
abbrev pub IsTraceStart : List (List ℕ) → TraceLines → Type 0
IsTraceStart names lines = (lines.text.before ≡ []) × (lines.text.added ≡ codes "atomfs-trace 2\n" ++ flat_map thread_line names)

-- a trace has a line for each of what is told, behind what it was first
abbrev pub HasLines : TraceLines → TraceLines → List Saying → Type 0
HasLines first lines told = (lines.text.before ≡ first.text.before) × AddsLines (map line_head told) first.text.added lines.text.added

-- a trace up to its tree
abbrev pub IsTraceHead : Bool → List (List ℕ) → List Moment → List ℕ → Type 0
IsTraceHead every names ms text = (lines left : List ℕ) × AreLines (heads_shown every ms) lines × (text ≡ codes "atomfs-trace 2\n" ++ (flat_map thread_line names ++ (lines ++ left)))
