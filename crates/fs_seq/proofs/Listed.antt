-- Rows that are taken one after the other.
use Rattle.std.proofs.Common.{◌≡◌, ℕ, zero, suc, List, [], ◌∷◌, ◌++◌, map, take, slice_get, Some, refl, ap, ◌∙◌}
use Rattle.std.proofs.lemmas.List.{map-append}
use Rattle.fs_names.specs.Keys.{Key}
use Rattle.fs_calls.specs.Tree.{Node, Tree}
use Rattle.fs_seq.specs.declared.rows.Row.{Row}
use Rattle.fs_seq.specs.Rows.{key_of, row_of, last_key}

-- the rows up to one of them
take_next : (rows : List Row) (i : ℕ) (row : Row) → slice_get rows i ≡ Some row → take (suc i) rows ≡ take i rows ++ row ∷ []
take_next [] i row e = absurd (cc)
take_next (r ∷ rows) zero row e = let same : r ≡ row = cc in ap (λ z. z ∷ []) same
take_next (r ∷ rows) (suc i) row e = ap (λ z. r ∷ z) (take_next rows i row e)

-- the entries up to one of them
entries_next : (rows : List Row) (i : ℕ) (row : Row) → slice_get rows i ≡ Some row → map row_of (take (suc i) rows) ≡ map row_of (take i rows) ++ row_of row ∷ []
entries_next rows i row e = ap (map row_of) (take_next rows i row e) ∙ map-append row_of (take i rows) (row ∷ [])

-- the last key of some entries and one more
last_key-snoc : (t : Tree) (e : Key × Node) → last_key (t ++ e ∷ []) ≡ e.0
last_key-snoc [] e = refl
last_key-snoc (f ∷ []) e = refl
last_key-snoc (f ∷ h ∷ t) e = last_key-snoc (h ∷ t) e

-- the last key of the entries up to one of them
pub last_next : (rows : List Row) (i : ℕ) (row : Row) → slice_get rows i ≡ Some row → last_key (map row_of (take (suc i) rows)) ≡ key_of row
last_next rows i row e = ap last_key (entries_next rows i row e) ∙ last_key-snoc (map row_of (take i rows)) (row_of row)
