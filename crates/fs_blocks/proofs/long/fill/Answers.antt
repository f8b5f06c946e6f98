use Rattle.std.proofs.Common.{ℕ, List, ◌++◌, [], replicate, ap, ◌∙◌, arith}
use Rattle.fs_blocks.proofs.long.fill.Goals as goal

pub returns-clause-items : goal.returns-clause-items
returns-clause-items c =
    c.loop.invariant.items ∙ ap (λ (n : ℕ). c.args.chunks.now.items ++ replicate {A = List (List ℕ)} n []) (omega arith)
