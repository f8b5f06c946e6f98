-- What names are, and their order.
use Rattle.std.specs.Prelude.{◌≡◌, ◌<◌, ℕ, Bool, true, false, List, [], ◌∷◌, if◌then◌else◌, ◌&&◌, not, ◌==◌, nat_eq, nat_le, nat_lt, length, filter, Option, Some, None}
use lib.Pointwise.{pointwise}
use Rattle.std.specs.Ordering.{nat_cmp, eq_by_cmp, is_lt}
use Rattle.std.specs.declared.cmp.Ordering.{Ordering}
use Rattle.std.specs.List.{AllByRecursion, list_all}
use Rattle.std.specs.Cmp.Lexicographic.{slice_cmp}
use Rattle.fs_names.specs.Limits.{largest, name_limit}

-- a name is its bytes
abbrev pub Name : Type 0
Name = List ℕ

-- a byte that a name may hold: neither zero nor a slash
abbrev pub may_stand : ℕ → Bool
may_stand b = not (b == 0) && not (b == 47)

-- one dot or two
abbrev pub is_dots : Name → Bool
is_dots [] = false
is_dots (a ∷ []) = a == 46
is_dots (a ∷ b ∷ []) = (a == 46) && (b == 46)
is_dots (a ∷ b ∷ c ∷ more) = false

-- one byte or more, and no more than the greatest limit, that may stand, and neither one dot nor two
abbrev pub can_name : Name → Bool
can_name name = nat_le 1 (length name) && nat_le (length name) (name_limit largest) && list_all may_stand name && not (is_dots name)

-- a name whose bytes do not stand in place, but are shared by its copies
abbrev pub is_long : Name → Bool
is_long name = nat_lt 64 (length name)

-- a name that is not
abbrev pub can_name_in_place : Name → Bool
can_name_in_place name = nat_le (length name) 64 && can_name name

-- the bytes that a name shares with its copies
abbrev pub shared_bytes : Name → Option Name
shared_bytes name = if is_long name then Some name else None

-- each is below 256
abbrev pub AreBytes : List ℕ → Type 0
AreBytes bs = AllByRecursion (λ b. b < 256) bs

-- what may be a name, in bytes
pub record IsName (n : Name) : Type 0 where
  pub test : can_name n ≡ true
  pub bytes : AreBytes n

-- names in byte order
abbrev pub name_cmp : Name → Name → Ordering
name_cmp = slice_cmp nat_cmp

-- whether two names are the same
abbrev pub same_name : Name → Name → Bool
same_name x y = eq_by_cmp name_cmp x y

-- a directory's names, in byte order, each once, with one more
abbrev pub inserted_name : Name → List Name → List Name
inserted_name x [] = x ∷ []
inserted_name x (y ∷ ys) = if same_name x y then y ∷ ys else (if is_lt (name_cmp x y) then x ∷ y ∷ ys else y ∷ inserted_name x ys)

-- a directory's names with one less
abbrev pub removed_name : Name → List Name → List Name
removed_name x [] = []
removed_name x (y ∷ ys) = if same_name x y then removed_name x ys else y ∷ removed_name x ys

-- whether a name is among them
abbrev pub has_name : Name → List Name → Bool
has_name x [] = false
has_name x (y ∷ ys) = if same_name x y then true else has_name x ys

-- a directory's names above one; all of them above no bytes
abbrev pub names_above : Name → List Name → List Name
names_above x ys = filter (λ y. is_lt (name_cmp x y)) ys

-- whether two lists of bytes are the same
abbrev pub same_bytes : List ℕ → List ℕ → Bool
same_bytes = pointwise nat_eq

-- whether two lists of names are the same
abbrev pub same_names : List Name → List Name → Bool
same_names = pointwise same_bytes
