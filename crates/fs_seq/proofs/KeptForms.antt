-- Files stay in their form by what calls do to a graph.
use Rattle.std.proofs.Common.{◌≡◌, ℕ, None, subst, sym}
use Rattle.fs_names.specs.Limits.{in_blocks}
use Rattle.fs_names.specs.Names.{Name}
use Rattle.fs_names.specs.declared.limits.Limits.{Limits}
use Rattle.fs_seq_nodes.specs.code.Slots.{Slots, Sets, HaveForm, KeepsForm}
use Rattle.fs_seq_nodes.specs.declared.nodes.Entry.{Entry}
use Rattle.fs_seq_nodes.proofs.FormLemmas.{form_set, form_edit}
use Rattle.fs_seq.specs.code.Effects.{Detaches}
use Rattle.fs_seq.specs.code.Renaming.{Displaces, Transfers}

module _ (limits : Limits) where
  -- a graph that stays
  pub form_same : (g g' : Slots) → g' ≡ g → KeepsForm limits g g'
  form_same g g' same = λ have. subst (HaveForm (in_blocks limits)) (sym same) have

  -- no place any more
  pub form_gone : (g g' : Slots) (n : ℕ) → Sets g g' n None → KeepsForm limits g g'
  form_gone g g' n sets = λ have. form_set (in_blocks limits) g g' n None tt sets have

  -- an entry and its place that go
  pub form_detached : (g g' : Slots) (dir i n : ℕ) → Detaches g g' dir i n → KeepsForm limits g g'
  form_detached g g' dir i n edit = λ have. form_gone edit.between g' n edit.removing (form_edit limits g edit.between dir _ edit.unlinking have)

  -- an entry that takes the place of another
  pub form_displaced : (g g' : Slots) (entry victim : Entry) (x : Name) → Displaces g g' entry victim x → KeepsForm limits g g'
  form_displaced g g' entry victim x edit = λ have. form_gone edit.unlinked g' victim.node edit.removing (form_edit limits edit.between edit.unlinked entry.dir _ edit.unlinking (form_edit limits g edit.between victim.dir _ edit.leading have))

  -- an entry that goes to another directory
  pub form_transferred : (g g' : Slots) (entry : Entry) (dir i : ℕ) (x : Name) → Transfers g g' entry dir i x → KeepsForm limits g g'
  form_transferred g g' entry dir i x edit = λ have. form_edit limits edit.between g' entry.dir _ edit.unlinking (form_edit limits g edit.between dir _ edit.linking have)
