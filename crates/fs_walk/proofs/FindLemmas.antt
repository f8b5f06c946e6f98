-- Where a path leads from a node, name by name.
use Rattle.std.proofs.Common.{◌≡◌, ℕ, zero, suc, ◌+◌, [], ◌∷◌, Option, Some, drop, sym, ap, ◌∙◌, arith}
use Rattle.std.specs.Prelude.{slice_get}
use Rattle.fs_names.specs.Keys.{Key}
use Rattle.fs_names.specs.Names.{Name}
use Rattle.fs_nodes.specs.Graphs.{Children, at, then_at}

-- one name more of a path
pub leads_on : (child : Children) (n : ℕ) (key : Key) (i : ℕ) (x : Name) → slice_get key i ≡ Some x → at child n (drop i key) ≡ then_at (child n x) (λ m. at child m (drop (i + 1) key))
leads_on child n [] i x e = cc
leads_on child n (y ∷ key) zero x e = let z : y ≡ x = cc in ap (λ (w : Name). then_at (child n w) (λ m. at child m key)) z
leads_on child n (y ∷ key) (suc i) x e = let z : suc i + 1 ≡ suc (i + 1) = omega arith in rw z (leads_on child n key i x e)

pub leads_to : (child : Children) (n : ℕ) (key : Key) (i : ℕ) (x : Name) (o : Option ℕ) → slice_get key i ≡ Some x → at child 0 key ≡ at child n (drop i key) → o ≡ child n x → at child 0 key ≡ then_at o (λ m. at child m (drop (i + 1) key))
leads_to child n key i x o e so_far read = so_far ∙ leads_on child n key i x e ∙ ap (λ (p : Option ℕ). then_at p (λ m. at child m (drop (i + 1) key))) (sym read)
