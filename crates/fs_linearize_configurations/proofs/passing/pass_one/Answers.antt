use Rattle.std.proofs.Common.{sym, ◌∙◌}
use Rattle.fs_linearize_configurations.proofs.SearchLemmas.{passes_if_new, passes_not}
use Rattle.fs_linearize_configurations.proofs.passing.pass_one.Goals as goal

pub returns-then-waits : goal.returns-then-waits
returns-then-waits c = λ h history here at each. passes_not h c.args.entry.now c.args.reached c.args.links.now.items c.args.layer.now (sym c.waits.ensures ∙ c.if-waits.true)

pub returns : goal.returns
returns c = λ h history here at each.
    passes_if_new h c.args.entry.now c.args.reached c.in_ok-next.next c.args.links.now.items c.behind.new.links.items c.args.layer.now c.add.new.self
    (c.in_ok-next.ensures h history here at each (sym c.waits.ensures ∙ c.if-waits.false)) c.in_ok-add.ensures
