use Rattle.std.proofs.Common.{ℕ, List, ◌++◌, [], replicate, ap, ◌∙◌, arith}
use Rattle.fs_blocks.proofs.chunk.fill.Goals as goal

pub returns-clause-items : goal.returns-clause-items
returns-clause-items c =
    c.loop.invariant.items ∙ ap (λ (n : ℕ). c.args.blocks.now.items ++ replicate {A = List ℕ} n []) (omega arith)
