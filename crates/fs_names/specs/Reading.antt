-- How a path is read from bytes.
use Rattle.std.specs.Prelude.{◌≡◌, ℕ, Bool, true, false, List, [], ◌∷◌, not, ◌&&◌, ◌==◌, nat_le, nat_lt, ◌+◌, ◌-◌, length, slice_index, filter, Option, None, Some, Result, Ok, Err}
use Rattle.std.specs.List.{slice_split, list_any}
use Rattle.fs_names.specs.Failures.{check, or_else, first_failure}
use Rattle.fs_names.specs.Names.{Name, is_dots}
use Rattle.fs_names.specs.Keys.{Key}
use Rattle.fs_names.specs.declared.fault.PathFault.{PathFault}
use Rattle.fs_names.specs.declared.fault.PathFault.TheVariants.{NotAbsolute, Nul, NameTooLong, TooManyNames, Dot, TrailingSlash, OutOfMemory}
use Rattle.fs_names.specs.Limits.{name_limit, path_limit}
use Rattle.fs_names.specs.declared.limits.Limits.{Limits}

-- the byte zero
abbrev pub is_zero : ℕ → Bool
is_zero b = b == 0

-- the byte of a slash
abbrev pub is_slash : ℕ → Bool
is_slash b = b == 47

-- whether there is a byte or more
abbrev pub has_bytes : Name → Bool
has_bytes [] = false
has_bytes (b ∷ bs) = true

-- what stands between the slashes, several in a row counting as one
abbrev pub names : List ℕ → Key
names bytes = filter has_bytes (slice_split is_slash bytes)

-- whether there is a name or more
abbrev pub has_names : Key → Bool
has_names [] = false
has_names (n ∷ ns) = true

-- whether the first byte is a slash
abbrev pub starts_at_root : List ℕ → Bool
starts_at_root [] = false
starts_at_root (b ∷ bs) = b == 47

-- whether the last byte is a slash
abbrev pub ends_in_slash : List ℕ → Bool
ends_in_slash bytes = slice_index bytes (length bytes - 1) == 47

-- what is wrong by these limits with a name before which so many stand
abbrev pub name_fault : Limits → ℕ → Name → Option PathFault
name_fault limits before name = first_failure
    (check (nat_le (path_limit limits) before) TooManyNames
    ∷ check (nat_lt (name_limit limits) (length name)) NameTooLong
    ∷ check (is_dots name) Dot
    ∷ [])

-- what is wrong by these limits with the first wrong name, from left to right
abbrev pub first_fault : Limits → ℕ → Key → Option PathFault
first_fault limits before [] = None
first_fault limits before (name ∷ more) = or_else (name_fault limits before name) (first_fault limits (before + 1) more)

-- the first check that the bytes fail by these limits
abbrev pub path_fault : Limits → List ℕ → Option PathFault
path_fault limits bytes = first_failure
    (check (not (starts_at_root bytes)) NotAbsolute
    ∷ check (list_any is_zero bytes) Nul
    ∷ first_fault limits 0 (names bytes)
    ∷ check (has_names (names bytes) && ends_in_slash bytes) TrailingSlash
    ∷ [])

-- the names, unless there is a fault
abbrev pub if_sound : Option PathFault → Key → Result Key PathFault
if_sound None key = Ok key
if_sound (Some fault) key = Err fault

-- the names that the bytes spell, by these limits, or the first check that fails
unfoldable pub reading : Limits → List ℕ → Result Key PathFault
reading limits bytes = if_sound (path_fault limits bytes) (names bytes)

-- the fault is what reading finds; out of memory says nothing of the bytes
abbrev pub FailsWith : PathFault → Result Key PathFault → Type 0
FailsWith OutOfMemory read = Unit {0}
FailsWith NotAbsolute read = read ≡ Err NotAbsolute
FailsWith Nul read = read ≡ Err Nul
FailsWith NameTooLong read = read ≡ Err NameTooLong
FailsWith TooManyNames read = read ≡ Err TooManyNames
FailsWith Dot read = read ≡ Err Dot
FailsWith TrailingSlash read = read ≡ Err TrailingSlash
