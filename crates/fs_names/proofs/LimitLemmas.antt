-- What the limits of every set are, decided set by set.
use Rattle.std.proofs.Common.{◌≡◌, ◌≤◌, ◌<◌, ◌^◌, true, false, None, refl, arith}
use Rattle.fs_names.specs.Limits.{largest, same_limits, path_limit, name_limit, entry_limit, file_limit, node_limit}
use Rattle.fs_names.specs.Shapes.{is_full}
use Rattle.fs_names.specs.declared.limits.Limits.{Limits}
use Rattle.fs_names.specs.declared.limits.TheConstants.{PATH_LIMIT, NODE_LIMIT}
use Rattle.fs_names.specs.declared.limits.Limits.TheVariants.{V1, V2, V3}

-- sets that are the same are one
pub one_set : (a b : Limits) → same_limits a b ≡ true → a ≡ b
one_set V1 V1 e = refl
one_set V1 V2 e = absurd (cc)
one_set V1 V3 e = absurd (cc)
one_set V2 V1 e = absurd (cc)
one_set V2 V2 e = refl
one_set V2 V3 e = absurd (cc)
one_set V3 V1 e = absurd (cc)
one_set V3 V2 e = absurd (cc)
one_set V3 V3 e = refl

-- a path of each set has room
pub paths_have_room : (limits : Limits) → path_limit limits ≤ PATH_LIMIT
paths_have_room V1 = omega arith
paths_have_room V2 = omega arith
paths_have_room V3 = omega arith

-- each path that there is room for is one of the largest set
pub room_is_largest : PATH_LIMIT ≤ path_limit largest
room_is_largest = omega arith

-- the names of the largest set are the longest
pub longest_names : (limits : Limits) → name_limit limits ≤ name_limit largest
longest_names V1 = omega arith
longest_names V2 = omega arith
longest_names V3 = omega arith

-- a directory may have an entry
pub some_entries : (limits : Limits) → 1 ≤ entry_limit limits
some_entries V1 = omega arith
some_entries V2 = omega arith
some_entries V3 = omega arith

-- so one without entries is not full
pub empty_has_room : (limits : Limits) → is_full (entry_limit limits) None ≡ false
empty_has_room V1 = refl
empty_has_room V2 = refl
empty_has_room V3 = refl

-- a file has few bytes
pub small_files : (limits : Limits) → file_limit limits < 2 ^ 32
small_files V1 = omega arith
small_files V2 = omega arith
small_files V3 = omega arith

-- there is a number for the root
pub some_nodes : (limits : Limits) → 1 ≤ node_limit limits
some_nodes V1 = omega arith
some_nodes V2 = omega arith
some_nodes V3 = omega arith

-- there is room for the numbers
pub nodes_have_room : (limits : Limits) → node_limit limits ≤ NODE_LIMIT
nodes_have_room V1 = omega arith
nodes_have_room V2 = omega arith
nodes_have_room V3 = omega arith
