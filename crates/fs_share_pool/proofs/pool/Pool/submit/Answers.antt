use Rattle.std.proofs.Common.{rules, arith, ◌≡◌, ◌+◌, ◌∙◌, ◌++◌, ◌∷◌, [], ℕ, List, ap, ◌≤◌, vec_len, vec_capacity}
use Rattle.fs_share_pool.specs.declared.job.Job.{Job}
use Rattle.fs_share_pool.specs.declared.done.Done.{Done}
use Rattle.fs_share_pool.specs.Jobs.{one, total, numbers as job_numbers}
use Rattle.fs_share_pool.specs.Dones.{numbers, ok_count, below}
use Rattle.fs_share_pool.proofs.Counts.{below_more, below_one, dones_counted}
use Rattle.fs_share_pool.proofs.Totals.{jobs_counted, jobs_snoc}
use Rattle.fs_share_pool.proofs.pool.Pool.submit.Goals as goal

pub invariant_of-self-inside-2 : goal.invariant_of-self-inside-2
invariant_of-self-inside-2 g c =
    let s = c.self.inside in
    let done = c.reserve-else-is_err.ensures in
    let job : Job = record { no = c.new-no.result; call = c.args.call } in
    let all : c.push_reserved.new.self.items ≡ s.waiting.items ++ job ∷ [] = c.push_reserved.ensures.items ∙ ap (λ (l : List Job). l ++ job ∷ []) c.reserve.ensures.items in
    let room : vec_len c.reserve-else-is_err.new.self + (c.len-count.result + 1) ≤ vec_capacity c.reserve-else-is_err.new.self = search rules in
    let numbered = s.once one in
    let once : (h : ℕ → ℕ) → total h (numbers c.reserve-else-is_err.new.self.items) + total h (job_numbers c.push_reserved.new.self.items) ≡ below h (s.next + 1) =
    (λ h. omega (
      arith,
      s.once h,
      ap (λ (l : List Job). total h (job_numbers l)) all,
      ap (λ (l : List Done). total h (numbers l)) done.items,
      jobs_snoc h s.waiting.items job,
      below_more h s.next,
      ap h c.new-no.ensures,
    )) in (
      search rules,
      (
        search rules,
        (
          s.empty,
          (
            once,
            (
              ap ok_count done.items ∙ s.answered,
              (
                omega (arith, room, numbered, dones_counted s.done.items, jobs_counted s.waiting.items, s.done.ok.0, s.waiting.ok.0, below_one s.next, done.len, c.len-count.ensures),
                (search rules, (s.ended, tt)),
              ),
            ),
          ),
        ),
      ),
    )
