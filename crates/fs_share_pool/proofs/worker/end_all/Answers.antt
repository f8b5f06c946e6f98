use Rattle.std.proofs.Common.{rules, arith, ◌≡◌, ◌+◌, [], ◌∷◌, ◌++◌, ap, sum_by}
use Rattle.std.proofs.lemmas.List.Elements.{All-pop}
use Rattle.std.proofs.lemmas.List.Sums.{sum_by_push}
use Rattle.crossbeam_queue.specs.Passes.{view, IsPassOf}
use Rattle.fs_share_pool.specs.declared.queue.Hand.{Hand}
use Rattle.fs_share_pool.specs.Dones.{numbers, ok_count, number_total, ok_total}
use Rattle.fs_share_pool.specs.Jobs.{hand, total, numbers as job_numbers}
use Rattle.fs_share_pool.proofs.Keeps.{total_append}
use Rattle.fs_share_pool.proofs.Totals.{jobs_append}
use Rattle.fs_share_pool.proofs.worker.end_all.Goals as goal

pub loop-worker-preserved : goal.loop-worker-preserved
loop-worker-preserved g c =
    let was = c.loop-worker.invariant in
    let worker = c.in-Some.worker in
    let answers = worker.answers in
    let v : Hand = view c.loop-worker.pass in
    let u : Hand = view worker.pass in
    let joined : view c.give_back.new.pass ≡ hand (v.parts + u.parts) (v.put ++ u.put) (v.popped ++ u.popped) = c.give_back.ensures.joined in
    let parts : (view c.give_back.new.pass).parts ≡ v.parts + 1 = omega (arith, ap (λ (w : Hand). w.parts) joined, worker.popped.0) in
    let fewer = c.in-Some.ensures.cases in
    let tallied = c.push_reserved.ensures in
    let listed = c.push_reserved-in-Some.ensures in (
      search rules,
      search rules,
      (All-pop (λ worker. IsPassOf c.args.queue.now worker.pass) c.loop-worker.workers.items c.pop.new.self.items c.pop.result c.pop.ensures.items was.2).0,
      omega (arith, was.3, parts, fewer),
      omega (arith, parts),
      (λ h. omega (arith, was.5 h, ap (λ (w : Hand). total h w.put) joined, total_append h v.put u.put, ap (total h) worker.popped.1)),
      (λ h. omega (arith, was.6 h, ap (λ (w : Hand). total h (job_numbers w.popped)) joined, jobs_append h v.popped u.popped, ap (total h) worker.popped.2, ap (number_total h) listed.items, total_append (λ l. total h (numbers l.items)) c.loop-worker.lists.items (answers ∷ []))),
      omega (arith, was.7, ap (sum_by (λ tally. tally.count)) tallied.items, sum_by_push (λ tally. tally.count) c.loop-worker.tallies.items c.end.result, c.end.ensures, worker.counted, ap ok_total listed.items, total_append (λ l. ok_count l.items) c.loop-worker.lists.items (answers ∷ [])),
      omega (arith, was.8, tallied.len, tallied.capacity, fewer),
      omega (arith, was.9, listed.len, listed.capacity, fewer),
      omega (arith, was.10, tallied.len, fewer),
      (λ h. omega (arith, was.11 h, ap (λ (w : Hand). total h w.popped) joined, total_append h v.popped u.popped)),
    )
