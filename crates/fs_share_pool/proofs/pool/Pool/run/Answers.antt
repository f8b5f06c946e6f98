use Rattle.std.proofs.Common.{rules, arith, ◌≡◌, ◌+◌, ℕ, ap, sum_by}
use Rattle.crossbeam_queue.specs.Passes.{view as hand_of}
use Rattle.fs_share_pool.specs.declared.job.Job.{Job}
use Rattle.fs_share_pool.specs.Dones.{numbers, below, number_total, ok_total}
use Rattle.fs_share_pool.specs.Jobs.{one, each, total, numbers as job_numbers}
use Rattle.fs_share_pool.specs.Pools.{Jobs}
use Rattle.fs_share_pool.proofs.Counts.{below_one}
use Rattle.fs_share_pool.proofs.Totals.{each_counted, each_numbers, total_numbers}
use Rattle.fs_share_pool.proofs.pool.Pool.run.Goals as goal

pub take_all_back-requires-clause-places : goal.take_all_back-requires-clause-places
take_all_back-requires-clause-places g c =
    let s = c.self.inside in
    let made = c.make_workers-workers.ensures.lists in
    omega (
      arith,
      c.end_all.ensures.put each,
      c.end_all.ensures.more each,
      c.put_all.ensures.put each,
      ap (total each) c.put_all.ensures.popped,
      c.put_all.ensures.places,
      ap (total each) made.0,
      ap (total each) made.1,
      s.empty each,
      each_counted s.waiting.items,
      s.waiting.ok.0,
      s.waiting.ok.1,
    )

pub add_all-requires : goal.add_all-requires
add_all-requires g c =
    let s = c.self.inside in
    let made = c.make_workers-workers.ensures.lists in
    record {
      places = omega (
        arith,
        c.end_all.ensures.put each,
        c.end_all.ensures.popped one,
        ap (number_total one) c.in-Ok.ensures.items,
        each_numbers (hand_of c.end_all.new.pass).popped,
        each_numbers (hand_of c.put_all.new.pass).popped,
        c.put_all.ensures.put each,
        ap (total each) c.put_all.ensures.popped,
        ap (total each) made.0,
        ap (total each) made.1,
        s.empty each,
        c.take_all_back.ensures.taken each,
        s.once one,
        each_numbers s.waiting.items,
        below_one s.next,
        s.places,
      );
    }

pub returns-clause-waiting : goal.returns-clause-waiting
returns-clause-waiting g c h =
    let s = c.self.inside in
    let made = c.make_workers-workers.ensures.lists in
    omega (
      arith,
      c.end_all.ensures.put h,
      c.end_all.ensures.more h,
      c.put_all.ensures.put h,
      ap (total h) c.put_all.ensures.popped,
      ap (total h) made.0,
      ap (total h) made.1,
      s.empty h,
      c.take_all_back.ensures.taken h,
      ap (λ (jobs : Jobs). total h jobs.waiting) c.self.view_is,
    )

pub invariant_of-self-inside-2 : goal.invariant_of-self-inside-2
invariant_of-self-inside-2 g c =
    let s = c.self.inside in
    let made = c.make_workers-workers.ensures.lists in
    let back = c.take_all_back.ensures in
    let once : (h : ℕ → ℕ) → total h (numbers c.add_all.new.done.items) + total h (job_numbers c.take_all_back.new.waiting.items) ≡ below h s.next =
    (λ h. let f : Job → ℕ = (λ j. h j.no) in omega (
      arith,
      c.end_all.ensures.put f,
      c.end_all.ensures.popped h,
      ap (number_total h) c.in-Ok.ensures.items,
      total_numbers h (hand_of c.end_all.new.pass).popped,
      total_numbers h (hand_of c.put_all.new.pass).popped,
      total_numbers h s.waiting.items,
      total_numbers h c.take_all_back.new.waiting.items,
      c.put_all.ensures.put f,
      ap (total f) c.put_all.ensures.popped,
      ap (total f) made.0,
      ap (total f) made.1,
      s.empty f,
      back.taken f,
      c.add_all.ensures.numbers h,
      s.once h,
    )) in (
      search rules,
      (
        back.parts,
        (
          back.empty,
          (
            once,
            (
              omega (
                arith,
                c.add_all.ensures.ok,
                c.end_all.ensures.counted,
                s.answered,
                ap ok_total c.in-Ok.ensures.items,
                ap (sum_by (λ tally. tally.count)) c.reserve.ensures.items,
              ),
              (
                omega (arith, c.add_all.ensures.places, s.places),
                (
                  omega (
                    arith,
                    c.end_all.ensures.put each,
                    c.end_all.ensures.more each,
                    c.put_all.ensures.put each,
                    ap (total each) c.put_all.ensures.popped,
                    ap (total each) made.0,
                    ap (total each) made.1,
                    s.empty each,
                    back.taken each,
                    each_counted s.waiting.items,
                    each_counted c.take_all_back.new.waiting.items,
                    s.waiting.ok.0,
                    c.take_all_back.new.waiting.ok.0,
                    s.bounded,
                  ),
                  omega (arith, s.ended, c.end_all.ensures.ended, c.reserve.ensures.len, c.len-made.ensures),
                ),
              ),
            ),
          ),
        ),
      ),
    )
