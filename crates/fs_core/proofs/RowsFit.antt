-- Rows that fit, one after the other.
use Rattle.std.proofs.Common.{◌≡◌, ℕ, zero, suc, ◌+◌, ◌≤◌, Bool, true, false, cond, List, [], ◌∷◌, ◌++◌, map, take, Option, Some, None, refl, sym, ap, ◌∙◌, subst, append_assoc, append-nil, arith}
use Rattle.std.specs.Prelude.{slice_get, IsTrue}
use Rattle.std.specs.List.{list_all}
use Rattle.std.proofs.lemmas.List.{map-append, take_more}
use Rattle.std.proofs.lemmas.Option.{slice_get_within, get_or_from_slice_get}
use Rattle.fs_names.specs.declared.limits.Limits.{Limits}
use Rattle.fs_calls.specs.Tree.{Tree, root_tree}
use Rattle.fs_seq.specs.declared.rows.Row.{Row}
use Rattle.fs_seq.specs.Rows.{row_of, is_first, is_plain, fits, misfit, misfit_from, IsWithinLimits}
use Rattle.fs_seq.proofs.Fitting.{fitting_rows_are_trees, root_first}

-- the rows of a tree within the limits fit
pub rows_fit : (limits : Limits) (rows : List Row) (t : Tree) → map row_of rows ≡ t → IsTrue (list_all is_plain rows) → IsWithinLimits limits t → misfit limits rows ≡ None
rows_fit limits rows t e plain within = (fitting_rows_are_trees limits rows).1 (subst (IsWithinLimits limits) (sym e) within, plain)

-- each behind those before it
fits_behind : (limits : Limits) (before : Tree) (place : ℕ) (rows : List Row) (i : ℕ) (row : Row) → misfit_from limits before place rows ≡ None → slice_get rows i ≡ Some row → fits limits (before ++ map row_of (take i rows)) row ≡ true
fits_behind limits before place [] i row e at = cc
fits_behind limits before place (r ∷ rows) zero row e at = go (fits limits before r) refl e
  where
    same : r ≡ row
    same = cc

    go : (b : Bool) → fits limits before r ≡ b → cond {A = Option ℕ} b (misfit_from limits (before ++ row_of r ∷ []) (place + 1) rows) (Some place) ≡ None → fits limits (before ++ []) row ≡ true
    go true f e = ap (λ (t : Tree). fits limits t row) (append-nil before) ∙ ap (fits limits before) (sym same) ∙ f
    go false f e = cc
fits_behind limits before place (r ∷ rows) (suc i) row e at = go (fits limits before r) e (λ h. fits_behind limits (before ++ row_of r ∷ []) (place + 1) rows i row h at)
  where
    go : (b : Bool) → cond {A = Option ℕ} b (misfit_from limits (before ++ row_of r ∷ []) (place + 1) rows) (Some place) ≡ None → (misfit_from limits (before ++ row_of r ∷ []) (place + 1) rows ≡ None → fits limits ((before ++ row_of r ∷ []) ++ map row_of (take i rows)) row ≡ true) → fits limits (before ++ row_of r ∷ map row_of (take i rows)) row ≡ true
    go true e later = ap (λ (t : Tree). fits limits t row) (sym (append_assoc before (row_of r ∷ []) (map row_of (take i rows)))) ∙ later e
    go false e later = cc

pub fits_each : (limits : Limits) (rows : List Row) (i : ℕ) (row : Row) → misfit limits rows ≡ None → 1 ≤ i → slice_get rows i ≡ Some row → fits limits (map row_of (take i rows)) row ≡ true
fits_each limits [] i row e one at = cc
fits_each limits (r ∷ rows) zero row e one at = absurd (omega (arith, one))
fits_each limits (r ∷ rows) (suc i) row e one at = go (is_first r) e
  where
    go : (b : Bool) → cond {A = Option ℕ} b (misfit_from limits (row_of r ∷ []) 2 rows) (Some 1) ≡ None → fits limits (row_of r ∷ map row_of (take i rows)) row ≡ true
    go true e = fits_behind limits (row_of r ∷ []) 2 rows i row e at
    go false e = cc

-- the first is the root
pub first_is_root : (limits : Limits) (rows : List Row) → misfit limits rows ≡ None → map row_of (take 1 rows) ≡ root_tree
first_is_root limits [] e = cc
first_is_root limits (r ∷ rows) e = let u = root_first (row_of r ∷ map row_of rows) ((fitting_rows_are_trees limits (r ∷ rows)).0 e).0.tree in cc

-- and each further one comes behind
pub one_more_row : (rows : List Row) (i : ℕ) (row : Row) → slice_get rows i ≡ Some row → map row_of (take (i + 1) rows) ≡ map row_of (take i rows) ++ row_of row ∷ []
one_more_row rows i row at =
    let more : take (i + 1) rows ≡ take i rows ++ row ∷ [] = take_more rows i row (slice_get_within rows i row at) ∙ ap (λ (r : Row). take i rows ++ r ∷ []) (get_or_from_slice_get rows i row row at) in
    ap (map row_of) more ∙ map-append row_of (take i rows) (row ∷ [])
