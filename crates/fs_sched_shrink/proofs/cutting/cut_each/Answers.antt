use Rattle.std.proofs.Common.{◌≤◌, ◌+◌, Bool, List, false, get_or, length, sym, ap, subst, ◌∙◌, arith, rules}
use Rattle.std.proofs.lemmas.Grind.{common_steps}
use Rattle.fs_sched_shrink.specs.code.Passes.{IsTrying}
use Rattle.fs_sched_shrink.specs.declared.cutting.Pass.{Pass}
use Rattle.fs_sched_shrink.proofs.Going.{trying_next, trying_tried, all_tried}
use Rattle.fs_sched_shrink.proofs.cutting.cut_each.Goals as goal

pub loop-at-preserved-then-not-may_go : goal.loop-at-preserved-then-not-may_go
loop-at-preserved-then-not-may_go c =
    trying_next c.args.from.now c.args.script.now c.args.what.now c.args.kept.now.items c.loop-at.kept.items c.loop-at.at c.args.runs.now c.loop-at.runs c.loop-at.pass c.loop-at.invariant
    (λ stays. c.may_go.ensures.not c.if-not-may_go.true (ap (λ (l : List Bool). get_or l c.loop-at.at false) c.as_slice.ensures.value ∙ stays))

pub loop-at-preserved : goal.loop-at-preserved
loop-at-preserved c =
    subst (λ (p : Pass). IsTrying c.args.from.now c.args.script.now c.args.what.now c.args.kept.now.items c.cut_one.new.kept.items (c.loop-at.at + 1) c.args.runs.now (c.loop-at.runs + 1) p) (sym c.pass_behind-pass.ensures)
    (trying_tried c.args.from.now c.args.script.now c.args.what.now c.args.kept.now.items c.loop-at.kept.items c.cut_one.new.kept.items c.loop-at.at c.args.runs.now c.loop-at.runs c.loop-at.pass c.in_ok-went.went
    c.loop-at.invariant c.if-runs-ge-TRIAL_LIMIT.false c.in_ok-went.ensures.shrunk c.in_ok-went.ensures.sized c.in_ok-went.ensures.cannot)

pub returns-clause-pass : goal.returns-clause-pass
returns-clause-pass c =
    let all : length c.args.kept.now.items ≤ c.loop-at.at = first_of (search rules, grind (arith, common_steps)) in
    all_tried c.args.from.now c.args.script.now c.args.what.now c.args.kept.now.items c.loop-at.kept.items c.loop-at.at c.args.runs.now c.loop-at.runs c.loop-at.pass all c.loop-at.invariant
