-- The least of names, as it is looked for place by place.
use Rattle.std.specs.Prelude.{ℕ, eqb, ◌&&◌, if◌then◌else◌, Option, Some, None}
use Rattle.std.specs.Ordering.{is_lt}
use Rattle.fs_names.specs.Names.{Name, name_cmp}
use Rattle.fs_nodes_places.specs.declared.node.Link.{Link}
use Rattle.fs_nodes_places.specs.Stores.{is_above}

-- the lesser of two names, if any; of equal ones the first
abbrev pub lesser : Option Name → Option Name → Option Name
lesser None next = next
lesser (Some name) None = Some name
lesser (Some name) (Some next) = if is_lt (name_cmp next name) then Some next else Some name

-- the name of an entry, where it is one of this directory and above the given name
abbrev pub name_above : Option Link → ℕ → Option Name → Option Name
name_above None dir low = None
name_above (Some link) dir low = if eqb dir link.dir && is_above low link.name then Some link.name else None
