use Rattle.std.proofs.Common.{ℕ, Some, ap, ◌∙◌}
use Rattle.fs_nodes.specs.Seen.{seen}
use Rattle.fs_nodes_places.proofs.RealLemmas.{bare_reaches}
use Rattle.fs_ops_effects.proofs.entries.add.Goals as goal

pub enter-requires-clause-apart : goal.enter-requires-clause-apart
enter-requires-clause-apart c = λ way.
    c.requires.other (c.in-Some.is ∙ ap (λ (n : ℕ). Some n) (bare_reaches (seen c.args.store.now) c.requires.real c.in-Some.node c.args.dir (c.requires.spare c.in-Some.node c.in-Some.is).empty way))
