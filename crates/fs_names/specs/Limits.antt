-- The three sets of limits.
use Rattle.std.specs.Prelude.{ℕ, Bool, true, false}
use Rattle.fs_names.specs.declared.limits.Limits.{Limits}
use Rattle.fs_names.specs.declared.limits.Limits.TheVariants.{V1, V2, V3}

-- the set that no other exceeds in names and paths
abbrev pub largest : Limits
largest = V3

-- whether two sets are the same
abbrev pub same_limits : Limits → Limits → Bool
same_limits V1 V1 = true
same_limits V2 V2 = true
same_limits V3 V3 = true
same_limits a b = false

-- the most names of a path in a text
abbrev pub path_limit : Limits → ℕ
path_limit V1 = 64
path_limit V2 = 64
path_limit V3 = 2048

-- the most bytes of a name in a text
abbrev pub name_limit : Limits → ℕ
name_limit V1 = 32
name_limit V2 = 64
name_limit V3 = 255

-- the most entries of a directory
abbrev pub entry_limit : Limits → ℕ
entry_limit V1 = 256
entry_limit V2 = 256
entry_limit V3 = 1048576

-- the most bytes of a file
abbrev pub file_limit : Limits → ℕ
file_limit V1 = 65536
file_limit V2 = 1048576
file_limit V3 = 2147483648

-- the most bytes that a read answers
abbrev pub read_limit : Limits → ℕ
read_limit V1 = 65536
read_limit V2 = 1048576
read_limit V3 = 1048576

-- the most node numbers in use at once
abbrev pub node_limit : Limits → ℕ
node_limit V1 = 1048576
node_limit V2 = 1048576
node_limit V3 = 16777216

-- whether files are in blocks
abbrev pub in_blocks : Limits → Bool
in_blocks V1 = false
in_blocks V2 = false
in_blocks V3 = true

-- whether a text may have the call that lists a directory in pieces
abbrev pub has_list : Limits → Bool
has_list V1 = false
has_list V2 = false
has_list V3 = true
