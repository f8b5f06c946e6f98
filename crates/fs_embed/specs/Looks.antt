-- What a path leads to.
use Rattle.std.specs.Prelude.{◌≡◌, ℕ, List, Option, Some, None, Ok, Err}
use Rattle.fs_names.specs.Keys.{Key}
use Rattle.fs_names.specs.declared.kind.Kind.{Kind}
use Rattle.fs_names.specs.declared.limits.Limits.{Limits}
use Rattle.fs_nodes.specs.Graphs.{Graph, numbers}
use Rattle.fs_nodes.specs.Stores.{kind_of}
use Rattle.fs_core.specs.CoreValues.{CoreValue, state_of}
use Rattle.fs_words.specs.Reading.{path_at}
use Rattle.fs_words.specs.declared.fault.FaultKind.{FaultKind}
use Rattle.fs_words.specs.declared.fault.FaultKind.TheVariants as kind

-- the kind of the node of a number, where there is one
abbrev pub kind_at : Graph → Option ℕ → Option Kind
kind_at graph None = None
kind_at graph (Some node) = kind_of (graph.shape node)

-- the kind of the node to which the path that a word spells leads
abbrev pub Leads : CoreValue → List ℕ → Option Kind → Type 0
Leads machine word kind = (path : Key) × (path_at machine.start.limits word ≡ Ok path) × (kind ≡ kind_at (state_of machine).graph (numbers (state_of machine).graph path))

-- a word that is no path by these limits; out of memory says nothing of it
abbrev pub IsNoPath : Limits → List ℕ → FaultKind → Type 0
IsNoPath limits word kind.OutOfMemory = Unit {0}
IsNoPath limits word k = path_at limits word ≡ Err k
