use Rattle.std.proofs.Common.{arith}
use Rattle.fs_share_pool.proofs.Totals.{total_permuted}
use Rattle.fs_share_pool.proofs.moving.put_all.Goals as goal

pub returns-clause-put : goal.returns-clause-put
returns-clause-put g c h =
    omega (
      arith,
      c.loop.invariant.4 h,
      total_permuted h _ _ c.reverse.ensures.permutation,
      total_permuted h _ _ c.reverse-2.ensures.permutation,
      c.put_last.ensures.put h,
    )
