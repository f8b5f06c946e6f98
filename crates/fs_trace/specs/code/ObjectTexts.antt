-- What is added to the objects of a trace.
use Rattle.std.specs.Prelude.{ℕ, ◌≡◌, List, [], ◌++◌}
use Rattle.std.specs.List.{flat_map}
use Rattle.fs_words.specs.JsonObjects.{Member, object_text}
use Rattle.fs_trace_story.specs.Shown.{Saying}
use Rattle.fs_trace.specs.Objects.{AreObjects, IsObjectOf, thread_object}
use Rattle.fs_trace.specs.declared.objects.TraceObjects.{TraceObjects}

-- a text has an object behind it with these first members
abbrev pub AddsObject : List Member → List ℕ → List ℕ → Type 0
AddsObject first old new = (line : List ℕ) × IsObjectOf first line × (new ≡ old ++ line)

-- a text has objects behind it of what is told
abbrev pub AddsObjects : List (List ℕ) → List Saying → List ℕ → List ℕ → Type 0
AddsObjects names told old new = (lines : List ℕ) × AreObjects names told lines × (new ≡ old ++ lines)

-- a text has some objects behind it
abbrev pub AddsSome : List ℕ → List ℕ → Type 0
AddsSome old new = (objects : List (List Member)) × (new ≡ old ++ flat_map object_text objects)

-- objects before the first moment
abbrev pub IsObjectsStart : List (List ℕ) → TraceObjects → Type 0
IsObjectsStart names page = (page.names.now ≡ names) × (page.text.before ≡ []) × (page.text.added ≡ flat_map thread_object names)

-- there is an object for each of what is told, behind what there was first
abbrev pub HasObjects : TraceObjects → TraceObjects → List Saying → Type 0
HasObjects first page told = (page.names.now ≡ first.names.now) × (page.text.before ≡ first.text.before) × AddsObjects first.names.now told first.text.added page.text.added
