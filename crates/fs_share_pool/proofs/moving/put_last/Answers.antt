use Rattle.std.proofs.Common.{arith, List, [], ◌∷◌, ap}
use Rattle.crossbeam_queue.specs.Passes.{view}
use Rattle.fs_share_pool.specs.declared.job.Job.{Job}
use Rattle.fs_share_pool.specs.declared.queue.Hand.{Hand}
use Rattle.fs_share_pool.specs.Jobs.{total}
use Rattle.fs_share_pool.proofs.Keeps.{total_append}
use Rattle.fs_share_pool.proofs.Totals.{total_snoc}
use Rattle.fs_share_pool.proofs.moving.put_last.Goals as goal

pub returns-in-Ok-clause-put : goal.returns-in-Ok-clause-put
returns-in-Ok-clause-put g c h =
    let job = c.in-Some.job in
    omega (
      arith,
      ap (λ (l : List Job). total h l) c.in-Some.ensures.items,
      total_snoc h c.pop.new.self.items job,
      ap (λ (v : Hand). total h v.put) c.in-Ok.ensures.put,
      total_append h (view c.args.pass.now).put (job ∷ []),
    )
