-- The table that is proposed for rows has each of them.
use Rattle.std.proofs.Common.{◌≡◌, ℕ, ◌-◌, ◌==◌, suc, zero, Bool, true, false, cond, List, [], ◌∷◌, slice_get, Some, refl, sym, ap, ◌∙◌, subst, ⊎_elim}
use Rattle.std.specs.List.{list_any, filter, flat_map}
use Rattle.std.proofs.lemmas.List.Folds.{list_any-append}
use Rattle.std.proofs.lemmas.Bool.{eq-eqb, or_left, or_right, or_cases, and_from}
use Rattle.fs_calls.specs.Replies.{number_of}
use Rattle.fs_calls.specs.declared.errno.Errno.{Errno}
use Rattle.fs_calls.specs.declared.errno.Errno.TheVariants as error
use Rattle.fs_linearize_dialects.specs.Names as names
use Rattle.fs_linearize_dialects.specs.Names.{same_name}
use Rattle.fs_linearize_dialects.specs.Tables.{rows_of}
use Rattle.fs_linearize_dialects.specs.declared.call_name.CallName.{CallName}
use Rattle.fs_linearize_dialects.specs.declared.call_name.CallName.TheVariants as name
use Rattle.fs_linearize_dialects.specs.declared.call_name.TheConstants.{NAMES}
use Rattle.fs_linearize_dialects.specs.declared.errors.TheConstants.{ERRNOS}
use Rattle.fs_linearize_dialects.specs.declared.dialect.Row.{Row}
use Rattle.fs_linearize_dialects.specs.Learning.{is_row, has_row, AreAmong}
use Rattle.fs_linearize_dialects.specs.LearnedTables.{is_seen, errors_seen, proposed_for, proposed_of, proposed}
use Rattle.fs_linearize_dialects.specs.LearningLaws.{ProposedAreAll}

-- ---- what is at a place

same_some : {X : Type 0} (x y : X) → Some x ≡ Some y → x ≡ y
same_some x y e = cc

any_flat : {X A : Type 0} (p : A → Bool) (f : X → List A) (xs : List X) (k : ℕ) (x : X) → slice_get xs k ≡ Some x → list_any p (f x) ≡ true → list_any p (flat_map f xs) ≡ true
any_flat p f [] k x is has = absurd (cc)
any_flat p f (y ∷ xs) zero x is has = list_any-append p (f y) (flat_map f xs) ∙ or_left _ _ (subst (λ z. list_any p (f z) ≡ true) (sym (same_some y x is)) has)
any_flat p f (y ∷ xs) (suc k) x is has = list_any-append p (f y) (flat_map f xs) ∙ or_right _ _ (any_flat p f xs k x is has)

more_any : {X : Type 0} (q : X → Bool) (b : Bool) (y : X) (xs : List X) → list_any q xs ≡ true → list_any q (cond b (y ∷ xs) xs) ≡ true
more_any q true y xs is = or_right _ _ is
more_any q false y xs is = is

any_filter : {X : Type 0} (test q : X → Bool) (xs : List X) (k : ℕ) (x : X) → slice_get xs k ≡ Some x → test x ≡ true → q x ≡ true → list_any q (filter test xs) ≡ true
any_filter test q [] k x is passes has = absurd (cc)
any_filter test q (y ∷ xs) zero x is passes has =
    let same = same_some y x is in
    ap (λ b. list_any q (cond b (y ∷ filter test xs) (filter test xs))) (ap test same ∙ passes) ∙ or_left _ _ (ap q same ∙ has)
any_filter test q (y ∷ xs) (suc k) x is passes has = more_any q (test y) y (filter test xs) (any_filter test q xs k x is passes has)

name_there : (n : CallName) → slice_get NAMES (names.number_of n - 1) ≡ Some n
name_there name.Mkdir = refl
name_there name.Mknod = refl
name_there name.Unlink = refl
name_there name.Rmdir = refl
name_there name.Rename = refl
name_there name.Exchange = refl
name_there name.Stat = refl
name_there name.Readdir = refl
name_there name.List = refl
name_there name.Read = refl
name_there name.Write = refl
name_there name.Truncate = refl

error_there : (e : Errno) → slice_get ERRNOS (number_of e - 1) ≡ Some e
error_there error.Enoent = refl
error_there error.Enotdir = refl
error_there error.Eexist = refl
error_there error.Enotempty = refl
error_there error.Eisdir = refl
error_there error.Einval = refl
error_there error.Ebusy = refl
error_there error.Eperm = refl
error_there error.Enospc = refl
error_there error.Efbig = refl
error_there error.Eoverflow = refl

-- ---- rows

is_itself : (name : CallName) (ours theirs e : Errno) → (number_of e == number_of theirs) ≡ true → is_row name ours theirs (record { call = name; ours = ours; theirs = e }) ≡ true
is_itself name ours theirs e same = and_from _ _ (and_from _ _ (eq-eqb (names.number_of name) (names.number_of name) refl) same) (eq-eqb (number_of ours) (number_of ours) refl)

any_rows : (name : CallName) (ours theirs : Errno) (errors : List Errno) → list_any (λ e. number_of e == number_of theirs) errors ≡ true → list_any (is_row name ours theirs) (rows_of name ours errors) ≡ true
any_rows name ours theirs [] has = has
any_rows name ours theirs (e ∷ errors) has = ⊎_elim
    (λ here. or_left _ _ (is_itself name ours theirs e here))
    (λ later. or_right _ _ (any_rows name ours theirs errors later))
    (or_cases (number_of e == number_of theirs) (list_any (λ f. number_of f == number_of theirs) errors) has)

proposed_has : (rows : List Row) (row : Row) → has_row row rows ≡ true → has_row row (proposed rows) ≡ true
proposed_has rows row has =
    any_flat (is_row row.call row.ours row.theirs) (proposed_of rows) NAMES (names.number_of row.call - 1) row.call (name_there row.call)
    (any_flat (is_row row.call row.ours row.theirs) (proposed_for rows row.call) ERRNOS (number_of row.ours - 1) row.ours (error_there row.ours)
    (any_rows row.call row.ours row.theirs (errors_seen row.call row.ours rows)
    (any_filter (is_seen row.call row.ours rows) (λ e. number_of e == number_of row.theirs) ERRNOS (number_of row.theirs - 1) row.theirs (error_there row.theirs) has (eq-eqb (number_of row.theirs) (number_of row.theirs) refl))))

all_in : (all rows : List Row) → ((row : Row) → has_row row rows ≡ true → has_row row all ≡ true) → AreAmong all rows
all_in all [] goes = tt
all_in all (row ∷ rows) goes =
    (goes row (or_left _ _ (is_itself row.call row.ours row.theirs row.theirs (eq-eqb (number_of row.theirs) (number_of row.theirs) refl))), all_in all rows (λ other has. goes other (or_right _ _ has)))

pub proposed_are_all : ProposedAreAll
proposed_are_all rows = all_in (proposed rows) rows (proposed_has rows)
