use Rattle.std.proofs.Common.{◌+◌, List, sym, subst, ap, ◌∙◌, slice_get, arith}
use Rattle.fs_linearize_configurations.specs.declared.reached.Reached.{Reached}
use Rattle.fs_linearize_configurations.proofs.SearchLemmas.{PassesUpTo, passes_none, passes_one_more, passes_all, none_left}
use Rattle.fs_linearize_configurations.proofs.passing.pass.Goals as goal

pub loop-reached-init : goal.loop-reached-init
loop-reached-init c = λ h place history here at there each.
    subst (λ (rest : List Reached). PassesUpTo h c.args.entry.now place c.args.links.now.items c.args.links.now.items c.args.layer rest c.new-behind.result) (sym c.into_reached-before.ensures)
    (passes_none h c.args.entry.now place c.args.links.now.items c.args.layer c.new-behind.result c.new-behind.ensures)

pub loop-reached-preserved : goal.loop-reached-preserved
loop-reached-preserved c = λ h place history here at there each.
    passes_one_more h c.args.entry.now place c.in-Some.reached c.args.links.now.items c.loop-reached.links.items c.pass_one.new.links.items c.args.layer c.loop-reached.before.items c.pop.new.self.items c.loop-reached.behind
    c.pass_one.new.layer c.in-Some.ensures.items there
    (λ same. c.in_ok-pass_one.ensures h history (ap (slice_get h) same ∙ here) (at ∙ ap (λ n. n + 1) (sym same)) each)
    (c.loop-reached.invariant h place history here at there each)

pub returns : goal.returns
returns c = λ h place history here at there each.
    passes_all h c.args.entry.now place c.args.links.now.items c.loop-reached.links.items c.args.layer c.loop-reached.before.items c.loop-reached.behind (none_left c.loop-reached.before.items (omega (arith, c.in_default.ensures.cases, c.loop-reached.before.ok.0)))
    (c.loop-reached.invariant h place history here at there each)
