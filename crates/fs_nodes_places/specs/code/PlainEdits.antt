-- What is done to one place.
use Rattle.std.specs.Prelude.{◌≡◌, Bool, List, [], ◌∷◌, Option, Some, None}
use Rattle.fs_blocks.specs.Files.{FileValue}
use Rattle.fs_names.specs.declared.kind.Kind.{Kind}
use Rattle.fs_names.specs.declared.kind.Kind.TheVariants as kinds
use Rattle.fs_nodes_places.specs.declared.node.Content.{Content}
use Rattle.fs_nodes_places.specs.declared.node.Content.TheVariants.{Dir, File}
use Rattle.fs_nodes_places.specs.declared.node.Link.{Link}
use Rattle.fs_nodes_places.specs.declared.node.Node.{Node}
use Rattle.fs_nodes_places.specs.Stores.{content_of}

-- the node is named by this entry from now on
abbrev pub relinked : Option Node → Option Link → Option Node
relinked None link = None
relinked (Some node) link = Some (record { content = node.content; link = link })

-- an empty directory or an empty file, which is in blocks or in one vector
abbrev pub new_content : Bool → Kind → Content
new_content in_blocks kinds.Dir = Dir
new_content in_blocks kinds.File = File (record { bytes = []; in_blocks = in_blocks })

-- a node of this kind that no entry names
abbrev pub new_node : Bool → Kind → Node
new_node in_blocks kind = record { content = new_content in_blocks kind; link = None }

-- another file comes in the place of one
abbrev pub refilled : Content → FileValue → Content
refilled Dir file = Dir
refilled (File old) file = File file

-- the file of a place, from now on
abbrev pub with_file : Option Node → FileValue → Option Node
with_file None file = None
with_file (Some node) file = Some (record { content = refilled node.content file; link = node.link })

-- what comes back for it: the old file, and else what was given
abbrev pub given_back : Content → FileValue → FileValue
given_back Dir file = file
given_back (File old) file = old

-- what comes back of a place
abbrev pub handed_out : Option Node → FileValue → FileValue
handed_out None file = file
handed_out (Some node) file = given_back node.content file

-- a file is in blocks, or it is in one vector
abbrev pub HasForm : Bool → Option Content → Type 0
HasForm in_blocks None = Unit {0}
HasForm in_blocks (Some Dir) = Unit {0}
HasForm in_blocks (Some (File file)) = file.in_blocks ≡ in_blocks

-- each file of some places is in blocks, or each is in one vector
abbrev pub HaveForm : Bool → List (Option Node) → Type 0
HaveForm in_blocks [] = Unit {0}
HaveForm in_blocks (place ∷ places) = HasForm in_blocks (content_of place) × HaveForm in_blocks places

-- a place with a node
abbrev pub IsTaken : Option (Option Node) → Type 0
IsTaken None = ⊥
IsTaken (Some None) = ⊥
IsTaken (Some (Some node)) = Unit {0}
