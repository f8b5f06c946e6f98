use Rattle.std.proofs.Common.{◌≡◌, ◌+◌, ◌-◌, drop, sym, ap, ◌∙◌, arith}
use Rattle.fs_sched_find.specs.Lives.{nth_from}
use Rattle.fs_sched_find.proofs.Steps.{nth_here, nth_next, nth_other, nth_none}
use Rattle.fs_sched_find.proofs.having.nth_of.Goals as goal
use Rattle.fs_sched_find.proofs.having.nth_of.Goals.{then-seats-at+else-left-eq1, else-seats-at}

pub returns-then-left-eq1 : goal.returns-then-left-eq1
returns-then-left-eq1 c = sym (c.loop-at.invariant ∙ nth_here c.loop-at.at c.args.seat c.loop-at.left c.args.seats.now c.loop-at-test.true c.if-seats-at.true c.if-left-eq1.true)

pub loop-at-preserved : goal.loop-at-preserved
loop-at-preserved c =
    let rest = drop (c.loop-at.at + 1) c.args.seats.now in
    elim c.if-seats-at.branch [
      | then-seats-at+else-left-eq1 w ↦
          let less : c.if-seats-at.left ≡ c.loop-at.left - 1 = omega arith in
          c.loop-at.invariant ∙ nth_next c.loop-at.at c.args.seat c.loop-at.left c.args.seats.now c.loop-at-test.true w.if-seats-at.true w.if-left-eq1.false
          ∙ ap (λ n. nth_from (c.loop-at.at + 1) c.args.seat n rest) (sym less)
      | else-seats-at w ↦
          c.loop-at.invariant ∙ nth_other c.loop-at.at c.args.seat c.loop-at.left c.args.seats.now c.loop-at-test.true w.if-seats-at.false
          ∙ ap (λ n. nth_from (c.loop-at.at + 1) c.args.seat n rest) (sym w.left-is)
    ]

pub returns : goal.returns
returns c = sym (c.loop-at.invariant ∙ nth_none c.loop-at.at c.args.seat c.loop-at.left c.args.seats.now (omega (arith, c.loop-at-test.false)))
