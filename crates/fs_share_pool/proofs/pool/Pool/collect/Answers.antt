use Rattle.std.proofs.Common.{arith, ◌∙◌, ◌==◌, if◌then◌else◌, ℕ, ap}
use Rattle.fs_share_pool.specs.Dones.{below}
use Rattle.fs_share_pool.specs.Pools.{Jobs}
use Rattle.fs_share_pool.proofs.Counts.{below_is, dones_permuted, ok_permuted}
use Rattle.fs_share_pool.proofs.pool.Pool.collect.Goals as goal

pub returns-clause-once : goal.returns-clause-once
returns-clause-once g c n =
    let s = c.self.inside in
    let h : ℕ → ℕ = (λ m. if m == n then 1 else 0) in
    omega (
      arith,
      s.once h,
      dones_permuted h s.done.items c.in_order.result.items c.in_order.ensures.permutation,
      below_is n c.args.self.submitted,
      ap (λ (jobs : Jobs). below h jobs.submitted) c.self.view_is,
    )

pub returns-clause-answered : goal.returns-clause-answered
returns-clause-answered g c =
    let s = c.self.inside in
    ok_permuted s.done.items c.in_order.result.items c.in_order.ensures.permutation ∙ s.answered
