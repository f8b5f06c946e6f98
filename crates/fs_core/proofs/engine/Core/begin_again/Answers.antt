use Rattle.fs_core.proofs.Again.{again_by, again_kept}
use Rattle.fs_core.proofs.engine.Core.begin_again.Goals as goal

pub invariant_of-self : goal.invariant_of-self
invariant_of-self c = rw (c.replace-told.ensures.after, c.new-2.ensures, c.new.ensures) (
  again_kept _ _ _ _ _ c.args.start c.self.invariant.0 (rw (← c.self.view_is) at c.requires.rest) (rw (← c.self.view_is) at c.requires.tree),
  c.self.invariant.1,
  c.self.invariant.2,
  c.self.invariant.3,
)

pub returns-clause-state : goal.returns-clause-state
returns-clause-state c = rw (c.replace-told.ensures.after, c.new-2.ensures, c.new.ensures, ← c.self.view_is)
    (again_by _ _ _ _ c.args.start c.self.invariant.0 (rw (← c.self.view_is) at c.requires.rest) (rw (← c.self.view_is) at c.requires.tree))
