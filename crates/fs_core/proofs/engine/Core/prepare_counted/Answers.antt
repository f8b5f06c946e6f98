use Rattle.std.proofs.Common.{rules}
use Rattle.fs_core.proofs.Within.{next_within}
use Rattle.fs_core.proofs.engine.Core.prepare_counted.Goals as goal

pub returns-clause-within : goal.returns-clause-within
returns-clause-within c = next_within c.args.self.now c.map_err.result c.told.ensures.run c.in_ok-at_rest.ensures.rest (search rules)
