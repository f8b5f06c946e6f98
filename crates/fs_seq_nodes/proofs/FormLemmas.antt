-- Files stay in their form where another place is set, and where a node is added.
use Rattle.std.proofs.Common.{◌≡◌, ℕ, Bool, true, false, List, Some, Option, nat_eq, refl, sym, subst, ap, ◌∙◌}
use Rattle.fs_names.specs.Limits.{in_blocks}
use Rattle.fs_names.specs.Names.{Name}
use Rattle.fs_names.specs.declared.limits.Limits.{Limits}
use Rattle.fs_seq_nodes.specs.code.Slots.{Place, Dir, Slots, place_at, Sets, Attaches, HasForm, HaveForm, KeepsForm}
use Rattle.fs_seq_nodes.proofs.Edits.{nat_same, nat_differ}

-- a place of that form was set
pub form_set : (in_blocks : Bool) (g g' : Slots) (n : ℕ) (o : Option Place) → HasForm in_blocks o → Sets g g' n o → HaveForm in_blocks g → HaveForm in_blocks g'
form_set in_blocks g g' n o form sets have = record { each = λ j. at j }
  where
    at : (j : ℕ) → HasForm in_blocks (place_at g' j)
    at j = elim (nat_eq j n) as (λ b. nat_eq j n ≡ b → HasForm in_blocks (place_at g' j)) [
      | true ↦ λ e. subst (HasForm in_blocks) (sym (ap (place_at g') (nat_same j n e) ∙ sets.here)) form
      | false ↦ λ e. subst (HasForm in_blocks) (sym (sets.elsewhere j (nat_differ j n e))) (have.each j)
    ] refl

module _ (limits : Limits) where
  -- other entries of a directory
  pub form_edit : (g g' : Slots) (n : ℕ) (links : List (Name × ℕ)) → Sets g g' n (Some (Dir links)) → KeepsForm limits g g'
  form_edit g g' n links sets = λ have. form_set (in_blocks limits) g g' n (Some (Dir links)) tt sets have

  -- a new place
  pub form_attached : (g g' : Slots) (dir i : ℕ) (x : Name) (new : Place) → HasForm (in_blocks limits) (Some new) → Attaches g g' dir i x new → KeepsForm limits g g'
  form_attached g g' dir i x new form edit = λ have. form_set (in_blocks limits) edit.between g' edit.number (Some new) form edit.adding (form_edit g edit.between dir _ edit.linking have)
