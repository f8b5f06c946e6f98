-- Links that are read, written anew, or put in another place.
use Rattle.std.proofs.Common.{◌≡◌, ℕ, zero, suc, List, [], ◌∷◌, drop, slice_get, Some, None, Option, refl, sym, ap, ◌∙◌}
use Rattle.std.specs.Prelude.{slice_set, insert, remove}
use Rattle.std.specs.FinMap.{find, put}
use Rattle.fs_names.specs.Names.{Name, name_cmp}
use Rattle.fs_seq_nodes.specs.declared.nodes.Link.{Link}
use Rattle.fs_seq_nodes.specs.code.Entries.{pair, pairs, number_of, name_of, IsNameAt, BelongsAt}

-- the pairs after an insertion
pub pairs-insert : (links : List Link) (i : ℕ) (l : Link) → pairs (insert links i l) ≡ insert (pairs links) i (pair l)
pairs-insert [] zero l = refl
pairs-insert [] (suc i) l = refl
pairs-insert (m ∷ links) zero l = refl
pairs-insert (m ∷ links) (suc i) l = ap (λ z. pair m ∷ z) (pairs-insert links i l)

-- the pairs after a removal
pub pairs-remove : (links : List Link) (i : ℕ) → pairs (remove links i) ≡ remove (pairs links) i
pairs-remove [] zero = refl
pairs-remove [] (suc i) = refl
pairs-remove (m ∷ links) zero = refl
pairs-remove (m ∷ links) (suc i) = ap (λ z. pair m ∷ z) (pairs-remove links i)

-- a link with a name has a number
nowhere : (o : Option (Name × ℕ)) (x : Name) → name_of o ≡ Some x → number_of o ≡ None → ⊥
nowhere None x e f = cc
nowhere (Some l) x e f = cc

-- a name that is not among links stands nowhere
pub not_in_place : (links : List (Name × ℕ)) (x : Name) (i : ℕ) → find name_cmp x links ≡ None → IsNameAt links x i → ⊥
not_in_place links x i none at = nowhere (slice_get links i) x at.named (sym at.found ∙ none)

-- a link that went, and one that was put in
pub replaced : (old left new : List Link) (i at : ℕ) (l : Link) (x : Name) (n : ℕ) → pair l ≡ (x, n) → left ≡ remove old i → new ≡ insert left at l → BelongsAt (pairs left) x at
    → pairs new ≡ put name_cmp x n (remove (pairs old) i)
replaced old left new i at l x n is went came belongs =
    ap pairs came ∙ pairs-insert left at l ∙ ap (insert (pairs left) at) is ∙ sym (belongs.placed n)
    ∙ ap (put name_cmp x n) (ap pairs went ∙ pairs-remove old i)

-- links of which one is written anew, by their names and numbers
pub pairs-set : (links : List Link) (i : ℕ) (l : Link) → pairs (slice_set links i l) ≡ slice_set (pairs links) i (pair l)
pairs-set [] i l = refl
pairs-set (m ∷ links) zero l = refl
pairs-set (m ∷ links) (suc i) l = ap (λ z. pair m ∷ z) (pairs-set links i l)

-- the pairs from a place on
pub pairs-drop : (links : List Link) (n : ℕ) → pairs (drop n links) ≡ drop n (pairs links)
pairs-drop [] zero = refl
pairs-drop [] (suc n) = refl
pairs-drop (m ∷ links) zero = refl
pairs-drop (m ∷ links) (suc n) = pairs-drop links n
