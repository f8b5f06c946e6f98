use Rattle.fs_nodes.specs.code.Linked.{rank}
use Rattle.fs_nodes.proofs.WalkLemmas.{IsWalk}
use Rattle.fs_nodes.proofs.siblings.walk.Given as goal

abbrev pub invariant-loop-next : goal.invariant-loop-next
invariant-loop-next l = IsWalk l.places l.dir l.name l.fn.after l.next l.steps

abbrev pub decreases-loop-next : goal.decreases-loop-next
decreases-loop-next l = rank l.places l.dir l.next
