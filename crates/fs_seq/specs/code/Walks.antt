-- What a walk through a graph in the order of the keys has still to come to.
use Rattle.std.specs.Prelude.{ℕ, ◌-◌, List, [], ◌∷◌, ◌++◌, map, reverse, length}
use Rattle.std.specs.List.{flat_map}
use Rattle.fs_names.specs.Names.{Name}
use Rattle.fs_names.specs.Keys.{Key}
use Rattle.fs_seq_nodes.specs.code.Slots.{Slots, keys_from}

-- the entries of a directory with these links, by their keys and numbers
abbrev pub entries_below : Key → List (Name × ℕ) → List (Key × ℕ)
entries_below key links = map (λ (l : Name × ℕ). (key ++ l.0 ∷ [], l.1)) links

-- the keys that lead on from a number behind its own, of no more names than walks have
abbrev pub keys_at : Slots → Key × ℕ → List Key
keys_at g at = map (λ (k : Key). at.0 ++ k) (keys_from (length g - length at.0) g at.1)

-- the keys to come, where these entries are ahead, the next one last
abbrev pub pending : Slots → List (Key × ℕ) → List Key
pending g ahead = flat_map (keys_at g) (reverse ahead)
