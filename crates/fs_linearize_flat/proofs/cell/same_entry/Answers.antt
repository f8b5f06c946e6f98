use Rattle.std.proofs.Common.{refl, sym, ap, ◌∙◌}
use Rattle.fs_names.specs.Keys.{same_key}
use Rattle.fs_linearize_flat.proofs.RowLemmas.{entries_exact, entries_key, entries_kind, entries_bytes}
use Rattle.fs_linearize_flat.proofs.cell.same_entry.Goals as goal

pub returns-then-not-same_key : goal.returns-then-not-same_key
returns-then-not-same_key c = (
  λ no. absurd (cc),
  λ same.
      let yes = entries_key c.args.entry.now c.args.other.now same in
      let no = sym (c.same_key.ensures ∙ ap (λ k. same_key k c.deref-2.result.now) c.deref.ensures.value ∙ ap (same_key c.args.entry.now.key.items) c.deref-2.ensures.value) ∙ c.if-not-same_key.true in
      absurd (cc),
)

pub returns-then-not-same_kinds : goal.returns-then-not-same_kinds
returns-then-not-same_kinds c = (λ no. absurd (cc), λ same. let yes = entries_kind c.args.entry.now c.args.other.now same in let no = sym c.same_kinds.ensures ∙ c.if-not-same_kinds.true in absurd (cc))

pub returns-in-Dir : goal.returns-in-Dir
returns-in-Dir c = (
  λ yes. entries_exact c.args.entry.now c.args.other.now
      (sym (c.same_key.ensures ∙ ap (λ k. same_key k c.deref-2.result.now) c.deref.ensures.value ∙ ap (same_key c.args.entry.now.key.items) c.deref-2.ensures.value) ∙ c.if-not-same_key.false)
      (sym c.same_kinds.ensures ∙ c.if-not-same_kinds.false)
      (λ file. let dir = c.in-Dir.is in absurd (cc)),
  λ same. refl,
)

pub returns-in-File : goal.returns-in-File
returns-in-File c = (
  λ yes. entries_exact c.args.entry.now c.args.other.now
      (sym (c.same_key.ensures ∙ ap (λ k. same_key k c.deref-2.result.now) c.deref.ensures.value ∙ ap (same_key c.args.entry.now.key.items) c.deref-2.ensures.value) ∙ c.if-not-same_key.false)
      (sym c.same_kinds.ensures ∙ c.if-not-same_kinds.false)
      (λ file. c.same.ensures.0 yes),
  λ same. c.same.ensures.1 (entries_bytes c.args.entry.now c.args.other.now c.in-File.is same),
)
