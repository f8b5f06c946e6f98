use Rattle.std.proofs.Common.{List, ℕ, ◌++◌, ap, ◌∙◌, subst}
use Rattle.fs_core.specs.CoreValues.{state_of}
use Rattle.fs_nodes.specs.Stores.{graph_of}
use Rattle.fs_script.specs.TreeText.{AppendsTree}
use Rattle.fs_sched.specs.RunTexts.{counts_line}
use Rattle.fs_sched.specs.code.Counts.{AreCounts}
use Rattle.fs_sched.proofs.RunTextLemmas.{counted_line}
use Rattle.fs_trace.specs.code.LineTexts.{IsTraceHead}
use Rattle.fs_trace.proofs.Lining.{trace_is}
use Rattle.fs_trace.proofs.trace_text.trace_text.Goals as goal

pub returns : goal.returns
returns c every start moments starts has =
    let names = c.args.script.now.names in
    let made = c.in_ok-text.text.items in
    let head : IsTraceHead every names moments made = c.in_ok-text.ensures every start moments starts (c.in_ok-story.ensures every start moments has) in
    let tree = subst (λ store. AppendsTree (graph_of store) made c.write_tree.new.text.items) c.store.ensures c.in_ok-write_tree.ensures.ok in
    let timeline = (state_of c.args.core.now).timeline in
    let counted = subst (AreCounts c.counts_of.result) c.timeline.ensures c.counts_of.ensures.exact in
    let line = counts_line c.counts_of.result.begun c.counts_of.result.committed c.counts_of.result.returned in
    let counts = c.in_ok-push_counts.ensures.ok ∙ ap (λ (l : List ℕ). l ++ line) c.new-last.ensures.added ∙ counted_line c.counts_of.result timeline counted in
    trace_is every names moments (state_of c.args.core.now) made c.write_tree.new.text.items c.push_counts.new.line.added c.kept.result.items head tree counts
    (c.kept.ensures ∙ ap (λ (l : List ℕ). l ++ c.push_counts.new.line.added) (c.in_ok-push_counts.ensures.before ∙ c.new-last.ensures.before))
