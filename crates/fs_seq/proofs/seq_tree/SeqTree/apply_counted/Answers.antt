use Rattle.std.proofs.Common.{◌≡◌, ap, sym, ◌∙◌, refl, ◌⊎◌, ⊎_elim, ℕ}
use Rattle.fs_names.specs.Keys.{Key}
use Rattle.fs_names.specs.declared.limits.Limits.{Limits}
use Rattle.fs_calls.specs.Tree.{Tree}
use Rattle.fs_calls.specs.Outcomes.{after, change}
use Rattle.fs_calls.specs.declared.call.Call.{Call}
use Rattle.fs_calls.specs.declared.call.Call.TheVariants.{Stat, Readdir, ListAfter, Read}
use Rattle.fs_seq.proofs.Replies.{leaves, on_ok}
use Rattle.fs_seq.proofs.seq_tree.SeqTree.apply_counted.Goals as goal

asked : (limits : Limits) (t : Tree) (call look : Call) → call ≡ look → change limits t look ≡ t → after limits t call ≡ t
asked limits t call look is same = ap (after limits t) is ∙ leaves limits t look same

-- a call that asks, as the arm knows it
abbrev IsAsked : Call → Type 0
IsAsked call =
    ((p : Key) × (call ≡ Stat p)) ⊎ (((p : Key) × (call ≡ Readdir p)) ⊎ (((count : ℕ) × (p : Key) × (after : Key) × (call ≡ ListAfter count p after)) ⊎ ((p : Key) × (off : ℕ) × (count : ℕ) × (call ≡ Read p off count))))

looked : (limits : Limits) (t : Tree) (call : Call) → IsAsked call → after limits t call ≡ t
looked limits t call h =
    ⊎_elim (λ s. asked limits t call (Stat s.0) s.1 refl)
    (λ o. ⊎_elim (λ s. asked limits t call (Readdir s.0) s.1 refl)
    (λ z. ⊎_elim (λ s. asked limits t call (ListAfter s.0 s.1 s.2) s.3 refl) (λ s. asked limits t call (Read s.0 s.1 s.2) s.3 refl) z) o)
    h

pub returns-in-Stat-clause-tree : goal.returns-in-Stat-clause-tree
returns-in-Stat-clause-tree c =
    let now = c.args.self.now in
    on_ok c.look_counted.result (sym (ap (λ (t : Tree). record { limits = now.limits; tree = t }) (looked now.limits now.tree c.args.call.now c.in-Stat.is)))
