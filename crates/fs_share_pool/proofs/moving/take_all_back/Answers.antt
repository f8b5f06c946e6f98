use Rattle.std.proofs.Common.{rules, arith, ◌≡◌, ℕ, ◌+◌, List, [], ◌∷◌, ap, ◌∙◌}
use Rattle.crossbeam_queue.specs.Passes.{view}
use Rattle.fs_share_pool.specs.declared.job.Job.{Job}
use Rattle.fs_share_pool.specs.declared.queue.Hand.{Hand}
use Rattle.fs_share_pool.specs.Jobs.{each, total}
use Rattle.fs_share_pool.proofs.Keeps.{total_append}
use Rattle.fs_share_pool.proofs.Totals.{total_snoc, each_counted}
use Rattle.fs_share_pool.proofs.moving.take_all_back.Goals as goal

pub push_reserved-requires : goal.push_reserved-requires
push_reserved-requires g c =
    let some = c.in-Some-take_back.ensures.popped in
    omega (arith, c.loop.invariant.4, some.1.1 each, each_counted c.loop.waiting.items, c.loop.waiting.ok.0)

pub loop-preserved : goal.loop-preserved
loop-preserved g c =
    let job = c.in-Some-take_back.job in
    let was = c.loop.invariant in
    let some = c.in-Some-take_back.ensures.popped in
    let items = c.push_reserved.ensures.items in
    let put : (view c.take_back.new.pass).put ≡ (view c.loop.pass).put = ap (λ (v : Hand). v.put) some.0 in
    let more : (h : Job → ℕ) → total h (view c.take_back.new.pass).popped ≡ total h (view c.loop.pass).popped + h job =
    (λ h. omega (arith, ap (λ (v : Hand). total h v.popped) some.0, total_append h (view c.loop.pass).popped (job ∷ []))) in
    let held : (h : Job → ℕ) → total h c.push_reserved.new.self.items ≡ total h c.loop.waiting.items + h job =
    (λ h. ap (λ (l : List Job). total h l) items ∙ total_snoc h c.loop.waiting.items job) in (
      search rules,
      search rules,
      ap (λ (v : Hand). v.parts) some.0 ∙ was.2,
      put ∙ was.3,
      omega (arith, was.4, held each, more each, c.push_reserved.ensures.capacity, ap (total each) put),
      (λ h. omega (arith, was.5 h, held h, more h)),
      c.push_reserved.ensures.capacity ∙ was.6,
    )
