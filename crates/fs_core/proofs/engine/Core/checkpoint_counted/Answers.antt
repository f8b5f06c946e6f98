use Rattle.std.proofs.Common.{sym, ◌∙◌}
use Rattle.fs_core.proofs.Again.{again_empty, no_entries}
use Rattle.fs_core.proofs.engine.Core.checkpoint_counted.Goals as goal

pub returns-then-is_empty-clause-state : goal.returns-then-is_empty-clause-state
returns-then-is_empty-clause-state c = again_empty c.args.self.now c.told.ensures.run c.in_ok-at_rest.ensures.rest (sym c.timeline.ensures ∙ no_entries c.timeline.result.now c.if-is_empty.ensures)
