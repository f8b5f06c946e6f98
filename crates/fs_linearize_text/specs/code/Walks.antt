-- Entries and what Returns leave open, side by side.
use Rattle.std.specs.Prelude.{List, [], ◌∷◌, Option, None}
use Rattle.fs_timeline.specs.declared.entry.Entry.{Entry}
use Rattle.fs_timeline.specs.declared.entry.Entry.TheVariants.{Begin, Commit, Return}
use Rattle.fs_linearize_text.specs.declared.marks.Mark.{Mark}

-- what the next Return leaves open
abbrev pub first_mark : List (Option Mark) → Option Mark
first_mark [] = None
first_mark (mark ∷ marks) = mark

-- what those behind it do
abbrev pub marks_behind : List (Option Mark) → List (Option Mark)
marks_behind [] = []
marks_behind (mark ∷ marks) = marks

-- what the Returns behind entries leave open
abbrev pub left_by : List Entry → List (Option Mark) → List (Option Mark)
left_by [] marks = marks
left_by (Begin c seat call ∷ es) marks = left_by es marks
left_by (Commit c ∷ es) marks = left_by es marks
left_by (Return c r ∷ es) [] = left_by es []
left_by (Return c r ∷ es) (mark ∷ marks) = left_by es marks
