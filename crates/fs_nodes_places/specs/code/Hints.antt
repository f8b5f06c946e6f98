-- Places without what they tell of the tree beside the entries of a directory.
use Rattle.std.specs.Prelude.{List, None, map}
use Rattle.fs_nodes_places.specs.declared.place.Place.{Place}

-- a place without what it tells of the tree beside the siblings
abbrev pub bare : Place → Place
bare p = record p { root = None; left = None; right = None }

-- all places without that
abbrev pub bared : List Place → List Place
bared ps = map bare ps
