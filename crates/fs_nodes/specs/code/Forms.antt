-- The form of the files of a store with sibling links.
use Rattle.std.specs.Prelude.{Bool, List, [], ◌∷◌}
use Rattle.fs_nodes_places.specs.code.PlainEdits.{HasForm}
use Rattle.fs_nodes_places.specs.declared.place.Place.{Place}

-- each file of some places is in blocks, or each is in one vector
abbrev pub HaveForm : Bool → List Place → Type 0
HaveForm in_blocks [] = Unit {0}
HaveForm in_blocks (p ∷ ps) = HasForm in_blocks p.content × HaveForm in_blocks ps
