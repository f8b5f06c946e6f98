-- Where the entries of a directory are.
use Rattle.std.specs.Prelude.{◌<◌, ◌≤◌, List, length}
use Rattle.fs_seq_nodes.specs.declared.nodes.Link.{Link}
use Rattle.fs_seq_nodes.specs.declared.links.Lists.{Lists}
use Rattle.fs_seq_nodes.specs.declared.links.Lists.TheVariants.{Few, Many}
use Rattle.fs_seq_nodes.specs.declared.piece.TheConstants.{MOST}

-- the entries in one list, or in several
abbrev pub links_in : Lists → List Link
links_in (Few few) = few.items
links_in (Many many) = many.value

-- one list has no more entries than one of several, and several have some
abbrev pub IsProper : Lists → Type 0
IsProper (Few few) = length few.items ≤ MOST
IsProper (Many many) = 0 < length many.value
