-- What calls reply where they stand, apart from what they change.
use Rattle.std.specs.Prelude.{ℕ, List, Option, Some, None}
use Rattle.fs_nodes.specs.Graphs.{Graph, content_in}

-- the graph with the new bytes of a file, if there are any
abbrev pub refilled : ℕ → Option (List ℕ) → Graph → Graph
refilled n None graph = graph
refilled n (Some bytes) graph = content_in n bytes graph
