use Rattle.fs_core.proofs.Again.{again_by, again_kept}
use Rattle.fs_core.proofs.engine.Core.play_again.Goals as goal

pub invariant_of-self-2 : goal.invariant_of-self-2
invariant_of-self-2 c = rw (c.replace-told.ensures.after, c.new.ensures) (
  again_kept _ _ _ _ _ c.advance.new.self c.self.invariant.0 (rw (← c.self.view_is) at c.requires.rest) c.in_ok-advance.ensures.tree,
  c.self.invariant.1,
  c.self.invariant.2,
  c.self.invariant.3,
)

pub returns-clause-state : goal.returns-clause-state
returns-clause-state c = rw (c.replace-told.ensures.after, c.new.ensures, ← c.self.view_is)
    (again_by _ _ _ _ c.advance.new.self c.self.invariant.0 (rw (← c.self.view_is) at c.requires.rest) c.in_ok-advance.ensures.tree)
