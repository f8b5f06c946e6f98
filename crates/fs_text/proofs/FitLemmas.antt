-- That all values of a list keep what each of them keeps.
use Rattle.std.proofs.Common.{◌≡◌, ℕ, zero, suc, ◌+◌, ◌≤◌, true, List, [], ◌∷◌, Some, length, take, sym, subst, add-one, arith}
use Rattle.std.specs.Prelude.{slice_get}
use Rattle.std.specs.List.{AllByRecursion}
use Rattle.fs_names.specs.Names.{Name, AreBytes, IsName, can_name}
use Rattle.fs_names.specs.Keys.{Key, IsPath}
use Rattle.fs_names.specs.Limits.{largest}
use Rattle.fs_names.proofs.LimitLemmas.{room_is_largest}
use Rattle.fs_names.proofs.TextLemmas.{name_short}
use Rattle.fs_text.specs.Fits.{FitsName, FitsPath}

-- one value more
all_next : {A : Type 0} (P : A → Type 0) (xs : List A) (i : ℕ) (x : A) → slice_get xs i ≡ Some x → AllByRecursion P (take i xs) → P x → AllByRecursion P (take (suc i) xs)
all_next P [] i x is all one = cc
all_next P (y ∷ xs) zero x is all one = let same : y ≡ x = cc in (subst P (sym same) one, tt)
all_next P (y ∷ xs) (suc i) x is all one = (all.0, all_next P xs i x is all.1 one)

pub all_more : {A : Type 0} (P : A → Type 0) (xs : List A) (i : ℕ) (x : A) → slice_get xs i ≡ Some x → AllByRecursion P (take i xs) → P x → AllByRecursion P (take (i + 1) xs)
all_more P xs i x is all one = rw add-one (all_next P xs i x is all one)

-- and all of them
pub all_taken : {A : Type 0} (P : A → Type 0) (xs : List A) (i : ℕ) → length xs ≤ i → AllByRecursion P (take i xs) → AllByRecursion P xs
all_taken P [] i within all = tt
all_taken P (x ∷ xs) zero within all = absurd (omega (arith, within))
all_taken P (x ∷ xs) (suc i) within all = (all.0, all_taken P xs i (omega (arith, within)) all.1)

-- ---- what a name and a path of the code always are

-- bytes that are a name are one of the largest set
pub name_fits : (n : Name) → can_name n ≡ true → AreBytes n → FitsName largest n
name_fits n h bytes = record { is_name = record { test = h; bytes = bytes }; short = name_short n h }

pub name_is : (n : Name) → IsName n → FitsName largest n
name_is n h = name_fits n h.test h.bytes

names_fit : (ns : Key) → AllByRecursion IsName ns → AllByRecursion (FitsName largest) ns
names_fit [] h = tt
names_fit (n ∷ ns) h = (name_is n h.0, names_fit ns h.1)

pub path_fits : (key : Key) → IsPath key → FitsPath largest key
path_fits key h = record { few = omega (arith, h.short, room_is_largest); names = names_fit key h.names }
