use Rattle.std.proofs.Common.{rules, arith, ◌≡◌, ◌∙◌, ◌++◌, ◌∷◌, [], ℕ, List, ap, sym}
use Rattle.crossbeam_queue.specs.Passes.{view}
use Rattle.fs_share_pool.specs.declared.done.Done.{Done}
use Rattle.fs_share_pool.specs.declared.job.Job.{Job}
use Rattle.fs_share_pool.specs.declared.queue.Hand.{Hand}
use Rattle.fs_share_pool.specs.Dones.{numbers, ok_count}
use Rattle.fs_share_pool.specs.Jobs.{numbers as job_numbers}
use Rattle.fs_share_pool.proofs.Counts.{numbers_snoc, ok_count_snoc}
use Rattle.fs_share_pool.proofs.Keeps.{numbers_snoc as jobs_snoc}
use Rattle.fs_share_pool.proofs.worker.work_on.Goals as goal

pub loop-preserved : goal.loop-preserved
loop-preserved g c =
    let done : Done = c.do_job-done.result in
    let job : Job = record { no = c.in-Some-take_job.job.0; call = c.in-Some-take_job.job.1 } in
    let ds = c.loop.answers.items in
    let was = c.loop.invariant in
    let items = c.push_reserved.ensures.items in
    let popped = c.in-Some-take_job.ensures.popped in
    let all : c.push_reserved.new.self.items ≡ ds ++ done ∷ [] = items ∙ ap (λ (l : List Done). l ++ done ∷ []) c.reserve.ensures.items in (
      search rules,
      (
        ap (λ (v : Hand). v.parts) popped ∙ was.1.0,
        ap (λ (v : Hand). v.put) popped ∙ was.1.1,
        ap (λ (v : Hand). job_numbers v.popped) popped
            ∙ jobs_snoc (view c.loop.pass).popped job
            ∙ ap (λ (l : List ℕ). l ++ job.no ∷ []) was.1.2
            ∙ ap (λ (n : ℕ). numbers ds ++ n ∷ []) (sym c.do_job-done.ensures.no)
            ∙ sym (numbers_snoc ds done)
            ∙ ap numbers (sym all),
      ),
      omega (arith, c.do_job-done.ensures.counted, was.2, ok_count_snoc ds done, ap ok_count all),
    )
