use Rattle.std.proofs.Common.{◌≡◌, ◌+◌, ◌&&◌, true, false, drop, get_or, None, sym, ap, ◌∙◌}
use Rattle.std.proofs.lemmas.List.{drop_all}
use Rattle.fs_sched_outcomes.specs.Asserts.{all_hold, holds}
use Rattle.fs_sched_outcomes.proofs.Deciding.{hold_next, hold_none}
use Rattle.fs_sched_outcomes.proofs.assertion.all_hold.Goals as goal

pub returns-then-at-decided : goal.returns-then-at-decided
returns-then-at-decided c =
    let rest = drop c.loop-at.at c.args.asserts.now in
    sym (sym c.loop-at.invariant ∙ ap (all_hold rest) (drop_all c.loop-at.at c.args.decided.now c.if-at-decided.true) ∙ hold_none rest)

pub returns-then-not-holds : goal.returns-then-not-holds
returns-then-not-holds c =
    let at = c.loop-at.at in
    let broken : holds (get_or c.args.asserts.now at c.index-asserts-at.result).quantifier (get_or c.args.decided.now at None) ≡ false = cc in
    sym (sym c.loop-at.invariant ∙ hold_next c.args.asserts.now c.args.decided.now at c.index-asserts-at.result None c.loop-at-test.true c.if-at-decided.false
    ∙ ap (λ b. b && all_hold (drop (at + 1) c.args.asserts.now) (drop (at + 1) c.args.decided.now)) broken)

pub loop-at-preserved : goal.loop-at-preserved
loop-at-preserved c =
    let at = c.loop-at.at in
    let rest = all_hold (drop (at + 1) c.args.asserts.now) (drop (at + 1) c.args.decided.now) in
    let so : holds (get_or c.args.asserts.now at c.index-asserts-at.result).quantifier (get_or c.args.decided.now at None) ≡ true = cc in
    let next = hold_next c.args.asserts.now c.args.decided.now at c.index-asserts-at.result None c.loop-at-test.true c.if-at-decided.false in
    sym (ap (λ b. b && rest) so) ∙ sym next ∙ c.loop-at.invariant
