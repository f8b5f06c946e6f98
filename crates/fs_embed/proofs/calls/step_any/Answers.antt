use borrow.Author.Count.{below_more}
use Rattle.std.proofs.Common.{◌∙◌, ℕ, ap, arith}
use Rattle.fs_laws.specs.StepsLeft.{steps_left}
use Rattle.fs_core.specs.CoreValues.{state_of}
use Rattle.fs_embed.specs.Calls.{StandsStill}
use Rattle.fs_embed.proofs.Progress.{at_rest, nothing_left, still_from}
use Rattle.fs_embed.proofs.calls.step_any.Goals as goal

pub loop-number-preserved : goal.loop-number-preserved
loop-number-preserved c =
    let was = c.loop-number.invariant in
    let none = rw c.in_default.is at c.step_on.ensures.step in
    let here = still_from (state_of c.loop-number.core) (state_of c.args.core.now) c.new-seat.result c.loop-number.number was.same c.new-seat.ensures none.0 in record {
      seats = c.step_on.ensures.seats ∙ was.seats;
      same = none.1 ∙ was.same;
      still = below_more (λ (k : ℕ). StandsStill (state_of c.args.core.now) k) c.loop-number.number was.still here;
    }

pub returns-clause-never_stuck : goal.returns-clause-never_stuck
returns-clause-never_stuck c = (
  at_rest c.args.core.now c.told_of_progress.ensures.never_stuck c.told_of_progress.ensures.determined c.told_of_numbers.ensures.agree.seat_call
      (λ k below. c.loop-number.invariant.still k (omega arith)),
  c.loop-number.invariant.same,
)

pub returns-clause-fewer : goal.returns-clause-fewer
returns-clause-fewer c =
    ap steps_left c.loop-number.invariant.same
    ∙ nothing_left c.args.core.now c.told_of_progress.ensures.never_stuck c.told_of_progress.ensures.determined (λ k below. c.loop-number.invariant.still k (omega arith))
