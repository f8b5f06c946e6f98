use Rattle.std.proofs.Common.{◌++◌, map, ap, ◌∙◌}
use Rattle.std.proofs.lemmas.Result.{on_ok_weaker}
use Rattle.std.proofs.lemmas.List.{at_drop_more, at_drop_all, take_rest}
use Rattle.fs_sched_reach.specs.code.Joined.{closed}
use Rattle.fs_sched_reach.proofs.Adding.{lines_first, lines_more, lines_left, lines_end}
use Rattle.fs_sched_reach.proofs.writing.push_lines.Goals as goal

pub loop-at-init : goal.loop-at-init
loop-at-init c = lines_first c.args.from.now c.args.limits (map (λ x. x.now) c.args.lines.now) c.args.text.now.items

pub loop-at-preserved : goal.loop-at-preserved
loop-at-preserved c =
    lines_more c.args.from.now c.args.limits (map (λ x. x.now) c.args.lines.now) _ _ _ c.args.text.now.items c.loop-at.text.items c.push_line.new.text.items
    (at_drop_more (λ ls. map (λ x. x.now) ls) c.args.lines.now c.loop-at.at _ c.loop-at-test.true) c.loop-at.invariant c.in_ok-push_line.field-0 c.if-not-branch.false c.in_ok-push_line.ensures

pub returns-then-not-branch : goal.returns-then-not-branch
returns-then-not-branch c =
    on_ok_weaker c.push_as_are.result
    (λ adds.
    lines_left c.args.from.now c.args.limits (map (λ x. x.now) c.args.lines.now) _ _ _ c.args.text.now.items c.loop-at.text.items c.push_line.new.text.items c.push_as_are.new.text.items
    (at_drop_more (λ ls. map (λ x. x.now) ls) c.args.lines.now c.loop-at.at _ c.loop-at-test.true) c.loop-at.invariant c.in_ok-push_line.field-0 c.if-not-branch.true c.in_ok-push_line.ensures
    (adds ∙ ap (λ ls. c.push_line.new.text.items ++ closed 10 (map (λ x. x.now) ls)) (take_rest c.args.lines.now c.loop-at.at)))
    c.push_as_are.ensures

pub returns : goal.returns
returns c =
    lines_end c.args.from.now c.args.limits (map (λ x. x.now) c.args.lines.now) _ c.args.text.now.items c.loop-at.text.items
    (at_drop_all (λ ls. map (λ x. x.now) ls) c.args.lines.now c.loop-at.at c.loop-at-test.false) c.loop-at.invariant
