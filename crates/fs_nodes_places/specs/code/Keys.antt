-- Under what the entries of a store are looked for: their directories and a hash.
use Rattle.std.specs.Prelude.{ℕ, ◌*◌, ◌/◌, ◌%◌, ◌^◌, nat_le, if◌then◌else◌, bit_and, bit_xor, List, Option, length, map, option_map}
use Rattle.std.specs.Hash.FoldHasher as folding
use Rattle.fs_names.specs.Names.{Name}
use Rattle.fs_nodes_places.specs.declared.node.Link.{Link}
use Rattle.fs_nodes_places.specs.declared.node.Node.{Node}
use Rattle.fs_nodes_places.specs.Stores.{link_of}
use Rattle.fs_nodes_places.specs.declared.key.Key.{Key}
use Rattle.fs_nodes_places.specs.declared.key.TheConstants.{SPREAD, MIX, HASH}
use Rattle.fs_names.specs.declared.order.TheConstants.{WIDTH}
use Rattle.fs_names.specs.Heads.{number_with}

-- the two halves of a product, one over the other
unfoldable pub folded : ℕ → ℕ → ℕ
folded a b = bit_and (bit_xor (a * b) (a * b / 2 ^ 64)) HASH

-- the hash of a directory and of a number that stands for a name
unfoldable pub mixed : ℕ → ℕ → ℕ
mixed dir word = folded (bit_xor word ((dir * SPREAD) % 2 ^ 64)) MIX

-- a number for a name that is longer than its first bytes
unfoldable pub hashed : Name → ℕ
hashed name = folding.finish (folding.write folding.initial name)

-- the number that stands for a name
unfoldable pub word_of : Name → ℕ
word_of name = if nat_le (length name) WIDTH then number_with 0 8 name else hashed name

-- the key of an entry
abbrev pub key_of : ℕ → Name → Key
key_of dir name = record { dir = dir; hash = mixed dir (word_of name) }

-- the same of the entry that names a node, if there is one
abbrev pub key_of_link : Option Link → Option Key
key_of_link link = option_map (λ l. key_of l.dir l.name) link

-- the keys of the entries that name the nodes of places
abbrev pub keys_of : List (Option Node) → List (Option Key)
keys_of places = map (λ place. key_of_link (link_of place)) places
