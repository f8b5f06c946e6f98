use Rattle.std.proofs.Common.{sym, ap, ◌∙◌}
use Rattle.fs_nodes.specs.Graphs.{Graph, IsReached}
use Rattle.fs_nodes.specs.Seen.{Seen, seen}
use Rattle.fs_nodes.specs.Stores.{child}
use Rattle.fs_ops_effects.proofs.MoveLemmas.{some_there, both_there}
use Rattle.fs_ops_effects.proofs.exchange.exchange.Goals as goal

pub swap_entries-requires-clause-there : goal.swap_entries-requires-clause-there
swap_entries-requires-clause-there c = some_there _ _ c.requires.there

pub swap_entries-requires-clause-there_too : goal.swap_entries-requires-clause-there_too
swap_entries-requires-clause-there_too c = some_there _ _ c.requires.there_too

pub swap_entries-requires-clause-apart : goal.swap_entries-requires-clause-apart
swap_entries-requires-clause-apart c =
    let old = child c.args.store.now in
    both_there _ _ _ _ (λ n m. (IsReached old n m → ⊥) × (IsReached old m n → ⊥)) c.requires.there c.requires.there_too c.requires.apart

pub returns-clause-made : goal.returns-clause-made
returns-clause-made c =
    let swapped = c.swap_entries.ensures _ _ c.requires.there c.requires.there_too in
    record { reply = ap (λ f. f.replies) c.kept.ensures ∙ c.done.ensures; reserved = ap (λ f. f.reserved) c.kept.ensures; removed = ap (λ f. f.removed) c.kept.ensures; graph_is = ap (λ (s : Seen). s.graph) swapped }

pub returns-clause-rest : goal.returns-clause-rest
returns-clause-rest c =
    let swapped = c.swap_entries.ensures _ _ c.requires.there c.requires.there_too in
    swapped ∙ ap (λ (g : Graph). record (seen c.args.store.now) { graph = g }) (sym (ap (λ (s : Seen). s.graph) swapped))
