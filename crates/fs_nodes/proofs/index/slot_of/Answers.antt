use Rattle.std.proofs.Common.{arith}
use Rattle.fs_nodes.proofs.index.slot_of.Goals as goal

pub returns : goal.returns
returns c = λ k h. c.loop-at.invariant k h.after (omega (arith, h.near)) h.held
