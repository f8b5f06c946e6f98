-- The names of a text, one after the other.
use Rattle.std.proofs.Common.{◌≡◌, ℕ, zero, suc, ◌+◌, ◌<◌, ◌≤◌, Bool, true, false, cond, not, ◌&&◌, ◌||◌, List, [], ◌∷◌, ◌++◌, length, map, take, Some, None, Option, Ok, refl, sym, ap, subst, ◌∙◌, arith, add-one, get_or, length-append, IsTrue, filter}
use Rattle.std.specs.Prelude.{nat_le, nat_lt, All}
use Rattle.std.specs.List.{slice_split, onto_first, list_any, list_all, AllByRecursion}
use Rattle.std.proofs.Math.Seq.{take-suc, take-append_seam, get_or-append_seam}
use Rattle.std.proofs.lemmas.Bool.Decides.{nat_tests}
use Rattle.std.proofs.lemmas.List.{map-append}
use Rattle.std.proofs.lemmas.List.Elements.{All-nil, All-cons, All-filter, All-get_or, recursion_from_All}
use Rattle.fs_names.specs.Names.{Name, may_stand, can_name, is_dots, AreBytes, IsName}
use Rattle.fs_names.specs.Keys.{Key}
use Rattle.fs_names.specs.Limits.{largest, name_limit, path_limit}
use Rattle.fs_names.specs.declared.limits.Limits.{Limits}
use Rattle.fs_names.specs.declared.fault.PathFault.{PathFault}
use Rattle.fs_names.specs.declared.fault.PathFault.TheVariants.{NotAbsolute, Nul, TooManyNames, NameTooLong, Dot}
use Rattle.fs_names.specs.Reading.{names, is_slash, is_zero, has_bytes, starts_at_root, first_fault, name_fault, path_fault, if_sound, reading}
use Rattle.fs_names.specs.Failures.{check, or_else}
use Rattle.fs_names.proofs.FailureLemmas.{check-none, or_else-none}
use Rattle.fs_names.proofs.LimitLemmas.{longest_names}

-- where neither of two tests holds, the first does not
or_first : (a b : Bool) → (a || b) ≡ false → a ≡ false
or_first true b e = absurd (cc)
or_first false b e = refl

-- where neither of two tests holds, the second does not
or_second : (a b : Bool) → (a || b) ≡ false → b ≡ false
or_second true b e = absurd (cc)
or_second false b e = e

-- where a byte and all others of a list of pieces may stand, so may those of the list with the byte at its front
onto_stands : (b : ℕ) (pieces : List Name) → may_stand b ≡ true → All (λ p. list_all may_stand p ≡ true) pieces → All (λ p. list_all may_stand p ≡ true) (onto_first b pieces)
onto_stands b [] e h = All-cons (λ p. list_all may_stand p ≡ true) _ [] (λ i. e i && true) h
onto_stands b (p ∷ pieces) e h = All-cons (λ p. list_all may_stand p ≡ true) (b ∷ p) pieces (λ i. e i && h 0 p (omega arith) i) (λ k d lt. h (suc k) d (omega arith))

-- where no byte is zero, each byte between two slashes may stand in a name
pieces_holdings : (bytes : List ℕ) → list_any is_zero bytes ≡ false → All (λ p. list_all may_stand p ≡ true) (slice_split is_slash bytes)
pieces_holdings [] z = All-cons (λ p. list_all may_stand p ≡ true) [] [] refl (All-nil _)
pieces_holdings (b ∷ bytes) z =
    let rest = pieces_holdings bytes (or_second (is_zero b) (list_any is_zero bytes) z) in
    elim (is_slash b) as (λ s. is_slash b ≡ s → All (λ p. list_all may_stand p ≡ true) (cond {A = List (List ℕ)} s ([] ∷ slice_split is_slash bytes) (onto_first b (slice_split is_slash bytes)))) [
      | true ↦ λ s. All-cons (λ p. list_all may_stand p ≡ true) [] _ refl rest
      | false ↦ λ s. onto_stands b (slice_split is_slash bytes) (λ i. not (or_first (is_zero b) (list_any is_zero bytes) z i) && not (s i)) rest
    ] refl

-- where no byte is zero, each byte of a name may stand
pub name_stands : (bytes : List ℕ) (k : ℕ) (x : Name) → list_any is_zero bytes ≡ false → (k < length (names bytes)) × (x ≡ get_or (names bytes) k x) → list_all may_stand x ≡ true
name_stands bytes k x z at =
    subst (λ y. list_all may_stand y ≡ true) (sym at.1)
    (All-get_or (λ p. list_all may_stand p ≡ true) (names bytes) k x at.0 (All-filter has_bytes (λ p. list_all may_stand p ≡ true) (slice_split is_slash bytes) (pieces_holdings bytes z)))

-- where two checks find nothing, both in order find nothing
none-or_else : {F : Type 0} (a b : Option F) → a ≡ None → b ≡ None → or_else a b ≡ None
none-or_else a b e f = ap (λ z. or_else z b) e ∙ f

-- one name more is right
right_from : (limits : Limits) (n : ℕ) (key : Key) (k : ℕ) (x : Name) → k < length key → x ≡ get_or key k x → first_fault limits n (take k key) ≡ None → name_fault limits (n + k) x ≡ None
    → first_fault limits n (take (suc k) key) ≡ None
right_from limits n [] k x h e before here = absurd (omega arith)
right_from limits n (y ∷ key) zero x h e before here =
    let start : n ≡ n + 0 = omega arith in
    none-or_else (name_fault limits n y) None (ap (λ z. name_fault limits z y) start ∙ ap (name_fault limits (n + 0)) (sym e) ∙ here) refl
right_from limits n (y ∷ key) (suc k) x h e before here =
    let both = or_else-none (name_fault limits n y) (first_fault limits (n + 1) (take k key)) before in
    let start : (n + 1) + k ≡ n + suc k = omega arith in
    none-or_else (name_fault limits n y) _ both.0 (right_from limits (n + 1) key k x (omega arith) e both.1 (ap (λ z. name_fault limits z x) start ∙ here))

-- where the names before it are right, a wrong name is the first
fault_from : (limits : Limits) (n : ℕ) (key : Key) (k : ℕ) (x : Name) (fault : PathFault) → k < length key → x ≡ get_or key k x → first_fault limits n (take k key) ≡ None → name_fault limits (n + k) x ≡ Some fault
    → first_fault limits n key ≡ Some fault
fault_from limits n [] k x fault h e before here = absurd (omega arith)
fault_from limits n (y ∷ key) zero x fault h e before here =
    let start : n ≡ n + 0 = omega arith in
    ap (λ z. or_else z (first_fault limits (n + 1) key)) (ap (λ z. name_fault limits z y) start ∙ ap (name_fault limits (n + 0)) (sym e) ∙ here)
fault_from limits n (y ∷ key) (suc k) x fault h e before here =
    let both = or_else-none (name_fault limits n y) (first_fault limits (n + 1) (take k key)) before in
    let start : (n + 1) + k ≡ n + suc k = omega arith in
    ap (λ z. or_else z (first_fault limits (n + 1) key)) both.0
    ∙ fault_from limits (n + 1) key k x fault (omega arith) e both.1 (ap (λ z. name_fault limits z x) start ∙ here)

-- a turn of the reader: a right name comes behind the others
pub read_one : (limits : Limits) (all read new : Key) (k : ℕ) (x : Name) → read ≡ take k all → length read ≡ k → (k < length all) × (x ≡ get_or all k x) → new ≡ read ++ x ∷ [] → first_fault limits 0 read ≡ None → name_fault limits (length read) x ≡ None
    → (new ≡ take (k + 1) all) × (first_fault limits 0 new ≡ None)
read_one limits all read new k x e count at f before here =
    let place : 0 + k ≡ length read = omega arith in
    let taken : new ≡ take (suc k) all = f ∙ ap (λ z. z ++ x ∷ []) e ∙ ap (λ z. take k all ++ z ∷ []) at.1 ∙ sym (take-suc all k x at.0) in
    (taken ∙ ap (λ n. take n all) (sym (add-one k)), ap (first_fault limits 0) taken ∙ right_from limits 0 all k x at.0 at.1 (ap (first_fault limits 0) (sym e) ∙ before) (ap (λ n. name_fault limits n x) place ∙ here))

-- a turn of the reader: a wrong name is the first that is wrong
pub fault_one : (limits : Limits) (all read : Key) (k : ℕ) (x : Name) (fault : PathFault) → read ≡ take k all → length read ≡ k → (k < length all) × (x ≡ get_or all k x) → first_fault limits 0 read ≡ None → name_fault limits (length read) x ≡ Some fault → first_fault limits 0 all ≡ Some fault
fault_one limits all read k x fault e count at before here =
    let place : 0 + k ≡ length read = omega arith in
    fault_from limits 0 all k x fault at.0 at.1 (ap (first_fault limits 0) (sym e) ∙ before) (ap (λ n. name_fault limits n x) place ∙ here)

-- a name that is right stands within the limit
pub within : (limits : Limits) (n : ℕ) (x : Name) → name_fault limits n x ≡ None → n < path_limit limits
within limits n x e =
    let few : nat_le (path_limit limits) n ≡ false = check-none _ TooManyNames (or_else-none (check (nat_le (path_limit limits) n) TooManyNames) _ e).0 in
    grind (arith, nat_tests)

-- names of which none is wrong are no more than the limit
pub not_too_many : (limits : Limits) (n : ℕ) (key : Key) → n ≤ path_limit limits → first_fault limits n key ≡ None → n + length key ≤ path_limit limits
not_too_many limits n [] h e = omega arith
not_too_many limits n (x ∷ key) h e =
    let both = or_else-none (name_fault limits n x) (first_fault limits (n + 1) key) e in
    let room = within limits n x both.0 in
    let rest : (n + 1) + length key ≤ path_limit limits = not_too_many limits (n + 1) key (omega arith) both.1 in
    omega arith

-- the names that are read stand at the front of all
pub front_of : (all read more : Key) → read ++ more ≡ all → read ≡ take (length read) all
front_of all read more e = sym (take-append_seam read more) ∙ ap (take (length read)) e

-- the first name that is not read stands behind those that are
pub place_of : (all read more : Key) (x : Name) → read ++ x ∷ more ≡ all → (length read < length all) × (x ≡ get_or all (length read) x)
place_of all read more x e =
    let long = length-append read (x ∷ more) in
    (omega (arith, ap length e, long), sym (get_or-append_seam read x more x) ∙ ap (λ z. get_or z (length read) x) e)

-- bytes that may stand, of which none is wrong as a name, are a name
pub right_name : (limits : Limits) (n : ℕ) (x : Name) → 0 < length x → list_all may_stand x ≡ true → name_fault limits n x ≡ None → IsTrue (can_name x)
right_name limits n x some stands e =
    let fits = longest_names limits in
    let behind = (or_else-none (check (nat_le (path_limit limits) n) TooManyNames) _ e).1 in
    let both = or_else-none (check (nat_lt (name_limit limits) (length x)) NameTooLong) _ behind in
    let short : nat_lt (name_limit limits) (length x) ≡ false = check-none _ NameTooLong both.0 in
    let dots : is_dots x ≡ false = check-none _ Dot (or_else-none (check (is_dots x) Dot) None both.1).0 in
    let low : nat_le 1 (length x) ≡ true = grind (arith, nat_tests) in
    let high : nat_le (length x) (name_limit largest) ≡ true = grind (arith, nat_tests) in
    rw (low, high, stands, dots) refl

-- ---- the names that are read

-- one of several that may each be a name
pub named_at : {X : Type 0} (f : X → Name) (xs : List X) (i : ℕ) (d : X) → AllByRecursion IsName (map f xs) → i < length xs → can_name (f (get_or xs i d)) ≡ true
named_at f [] i d each lt = absurd (omega arith)
named_at f (x ∷ xs) zero d each lt = each.0.test
named_at f (x ∷ xs) (suc i) d each lt = named_at f xs i d each.1 (omega arith)

-- one more of a list that is mapped
pub one_mapped : {X : Type 0} (f : X → Name) (xs : List X) (i : ℕ) (d : X) (made new : Key) (x : Name) → i < length xs → made ≡ map f (take i xs) → x ≡ f (get_or xs i d) → new ≡ made ++ x ∷ []
    → new ≡ map f (take (i + 1) xs)
one_mapped f xs i d made new x lt before here pushed =
    pushed ∙ ap (λ ys. ys ++ x ∷ []) before ∙ ap (λ y. map f (take i xs) ++ y ∷ []) here
    ∙ sym (ap (λ n. map f (take n xs)) (add-one i) ∙ ap (map f) (take-suc xs i d lt) ∙ map-append f (take i xs) (get_or xs i d ∷ []))

-- bytes one by one
pub bytes_each : (bytes : List ℕ) → ((i : ℕ) → get_or bytes i 0 < 256) → AreBytes bytes
bytes_each [] each = tt
bytes_each (b ∷ bytes) each = (each 0, bytes_each bytes (λ i. each (suc i)))

onto_bytes : (b : ℕ) (pieces : List Name) → b < 256 → AllByRecursion AreBytes pieces → AllByRecursion AreBytes (onto_first b pieces)
onto_bytes b [] small h = ((small, tt), tt)
onto_bytes b (p ∷ pieces) small h = ((small, h.0), h.1)

-- what stands between the slashes of bytes is bytes
pieces_bytes : (bytes : List ℕ) → AreBytes bytes → AllByRecursion AreBytes (slice_split is_slash bytes)
pieces_bytes [] h = (tt, tt)
pieces_bytes (b ∷ bytes) h =
    elim (is_slash b) as (λ s. AllByRecursion AreBytes (cond {A = List (List ℕ)} s ([] ∷ slice_split is_slash bytes) (onto_first b (slice_split is_slash bytes)))) [
      | true ↦ (tt, pieces_bytes bytes h.1)
      | false ↦ onto_bytes b (slice_split is_slash bytes) h.0 (pieces_bytes bytes h.1)
    ]

kept_bytes : (pieces : List Name) → AllByRecursion AreBytes pieces → AllByRecursion AreBytes (filter has_bytes pieces)
kept_bytes [] h = tt
kept_bytes ([] ∷ pieces) h = kept_bytes pieces h.1
kept_bytes ((b ∷ bs) ∷ pieces) h = (h.0, kept_bytes pieces h.1)

kept_some : (pieces : List Name) → AllByRecursion (λ (x : Name). 0 < length x) (filter has_bytes pieces)
kept_some [] = tt
kept_some ([] ∷ pieces) = kept_some pieces
kept_some ((b ∷ bs) ∷ pieces) = (omega arith, kept_some pieces)

-- names of which none is wrong may each be one
right_names : (limits : Limits) (n : ℕ) (key : Key) → AllByRecursion (λ (x : Name). list_all may_stand x ≡ true) key → AllByRecursion (λ (x : Name). 0 < length x) key → AllByRecursion AreBytes key → first_fault limits n key ≡ None → AllByRecursion IsName key
right_names limits n [] stands some bytes e = tt
right_names limits n (x ∷ key) stands some bytes e =
    let both = or_else-none (name_fault limits n x) (first_fault limits (n + 1) key) e in
    (record { test = right_name limits n x some.0 stands.0 both.0; bytes = bytes.0 }, right_names limits (n + 1) key stands.1 some.1 bytes.1 both.1)

-- so may the names of bytes without zeros
pub names_read : (limits : Limits) (bytes : List ℕ) → AreBytes bytes → list_any is_zero bytes ≡ false → first_fault limits 0 (names bytes) ≡ None → AllByRecursion IsName (names bytes)
names_read limits bytes small zeros e =
    let pieces = slice_split is_slash bytes in
    let stands = recursion_from_All (λ (x : Name). list_all may_stand x ≡ true) (names bytes) (All-filter has_bytes (λ p. list_all may_stand p ≡ true) pieces (pieces_holdings bytes zeros)) in
    right_names limits 0 (names bytes) stands (kept_some pieces) (kept_bytes pieces (pieces_bytes bytes small)) e

-- ---- names that were read keep the limit

first_short : (limits : Limits) (n : ℕ) (key : Key) → first_fault limits n key ≡ None → AllByRecursion (λ (x : Name). length x ≤ name_limit limits) key
first_short limits n [] e = tt
first_short limits n (x ∷ key) e =
    let both = or_else-none (name_fault limits n x) (first_fault limits (n + 1) key) e in
    let behind = (or_else-none (check (nat_le (path_limit limits) n) TooManyNames) _ both.0).1 in
    let short : nat_lt (name_limit limits) (length x) ≡ false = check-none _ NameTooLong (or_else-none (check (nat_lt (name_limit limits) (length x)) NameTooLong) _ behind).0 in
    let less : length x ≤ name_limit limits = grind (arith, nat_tests, short) in
    (omega (arith, less), first_short limits (n + 1) key both.1)

-- no more names than a set allows, each of no more bytes
pub record KeepsLimits (limits : Limits) (key : Key) : Type 0 where
  pub few : length key ≤ path_limit limits
  pub short : AllByRecursion (λ (x : Name). length x ≤ name_limit limits) key

pub read_short : (limits : Limits) (bytes : List ℕ) (key : Key) → reading limits bytes ≡ Ok key → KeepsLimits limits key
unfolding reading
read_short limits bytes key is = go (path_fault limits bytes) refl is
  where
    go : (f : Option PathFault) → path_fault limits bytes ≡ f → if_sound f (names bytes) ≡ Ok key → KeepsLimits limits key
    go (Some f) e h = absurd (cc)
    go None e h =
        let root = or_else-none (check (not (starts_at_root bytes)) NotAbsolute) _ e in
        let zeros = or_else-none (check (list_any is_zero bytes) Nul) _ root.1 in
        let faults = or_else-none (first_fault limits 0 (names bytes)) _ zeros.1 in
        let same : names bytes ≡ key = cc in
        let few : 0 + length (names bytes) ≤ path_limit limits = not_too_many limits 0 (names bytes) (omega arith) faults.0 in
        subst (KeepsLimits limits) same (record { few = omega (arith, few); short = first_short limits 0 (names bytes) faults.0 })
