-- Pieces of text that are added to a trace.
use Rattle.std.specs.Prelude.{◌≡◌, ◌++◌, ℕ, List}
use Rattle.std.specs.List.{flat_map}
use Rattle.fs_timeline.specs.declared.entry.Entry.{Entry}
use Rattle.fs_words.specs.JsonObjects.{Member, object_text}
use Rattle.fs_trace_entries.specs.Entries.{IsLine}
use Rattle.fs_trace_entries.specs.Objects.{IsObject}

-- a piece of text is added of which this holds by the place of an entry
abbrev pub AddsEach : (ℕ → Entry → List ℕ → Type 0) → ℕ → Entry → List ℕ → List ℕ → Type 0
AddsEach Is n e old new = (line : List ℕ) × Is n e line × (new ≡ old ++ line)

-- the line of an entry is added to a text
abbrev pub AddsLine : ℕ → Entry → List ℕ → List ℕ → Type 0
AddsLine n e old new = AddsEach IsLine n e old new

-- the object of an entry is added to a text
abbrev pub AddsObject : ℕ → Entry → List ℕ → List ℕ → Type 0
AddsObject n e old new = AddsEach IsObject n e old new

-- some objects are added to a text
abbrev pub AddsSome : List ℕ → List ℕ → Type 0
AddsSome old new = (objects : List (List Member)) × (new ≡ old ++ flat_map object_text objects)
