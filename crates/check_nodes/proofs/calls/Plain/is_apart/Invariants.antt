use Rattle.fs_nodes.specs.Graphs.{IsReached}
use Rattle.fs_nodes.specs.Stores.{child}
use Rattle.check_nodes.proofs.calls.Plain.is_apart.Given as goal

-- what leads to the directory leads to where the way up is
abbrev pub invariant-loop : goal.invariant-loop
invariant-loop l = IsReached (child l.self.store) l.node l.fn.dir → IsReached (child l.self.store) l.node l.at
