-- The plain store that a store is.
use Rattle.std.specs.Prelude.{ℕ, List, Option, Some, None, map}
use Rattle.fs_names.specs.Names.{Name}
use Rattle.fs_nodes_places.specs.declared.node.Content.{Content}
use Rattle.fs_nodes_places.specs.declared.node.Link.{Link}
use Rattle.fs_nodes_places.specs.declared.node.Node.{Node}
use Rattle.fs_nodes_places.specs.declared.place.Place.{Place}

-- the entry that names a node, by its directory and its name
abbrev pub link_with : Option ℕ → Name → Option Link
link_with None name = None
link_with (Some dir) name = Some (record { dir = dir; name = name })

-- a node by what it is and the entry that names it; None of a free place
abbrev pub plain_with : Option Content → Option Link → Option Node
plain_with None link = None
plain_with (Some content) link = Some (record { content = content; link = link })

-- the node of a place, if it has one
abbrev pub plain : Place → Option Node
plain p = plain_with p.content (link_with p.parent p.name)

-- the nodes of all places, in the order of their numbers: what the model of a store is
abbrev pub plains : List Place → List (Option Node)
plains ps = map plain ps
