use Rattle.std.proofs.Common.{◌≡◌}
use Rattle.atomfs_answers.proofs.seen.Kept.read_ahead.Given as goal

abbrev pub invariant-loop : goal.invariant-loop
invariant-loop g l = g.R.Source.failures l.self.inner ≡ g.R.Source.failures l.fn.self.inner
