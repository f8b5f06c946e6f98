-- How one place of many is changed.
use Rattle.std.specs.Prelude.{ℕ, zero, suc, List, [], ◌∷◌, Option, Some, None}
use Rattle.fs_blocks.specs.Files.{FileValue}
use Rattle.fs_nodes_places.specs.declared.node.Content.{Content}
use Rattle.fs_nodes_places.specs.code.PlainEdits.{refilled, given_back}
use Rattle.fs_nodes_places.specs.declared.place.Place.{Place}

-- one place is changed
abbrev pub edited : ℕ → (Place → Place) → List Place → List Place
edited n f [] = []
edited zero f (p ∷ ps) = f p ∷ ps
edited (suc n) f (p ∷ ps) = p ∷ edited n f ps

-- a place becomes free, and leads to the next free one
abbrev pub vacated : Option ℕ → Place → Place
vacated next p = record p { content = None; next = next }

-- a free place gets a node
abbrev pub filled : Content → Place → Place
filled content p = record p { content = Some content; parent = None; next = None; prev = None }

-- another file comes in the place of one
abbrev pub content_with : FileValue → Option Content → Option Content
content_with file None = None
content_with file (Some content) = Some (refilled content file)

-- what comes back for it: the old file, or the given one where there is no content
abbrev pub content_old : FileValue → Option Content → FileValue
content_old file None = file
content_old file (Some content) = given_back content file

-- a place has another file from now on
abbrev pub with_content : FileValue → Place → Place
with_content file p = record p { content = content_with file p.content }
