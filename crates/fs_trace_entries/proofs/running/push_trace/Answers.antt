use Rattle.std.proofs.Common.{◌++◌, ◌∙◌, ap, codes}
use Rattle.std.proofs.lemmas.Result.{on_ok_weaker}
use Rattle.fs_words.proofs.Chains.{added}
use Rattle.fs_sched.specs.RunTexts.{counts_line, end_line, number_of}
use Rattle.fs_sched.specs.declared.run_texts.EntryKind.TheVariants as kind
use Rattle.fs_trace_entries.proofs.running.push_trace.Goals as goal

pub returns-clause-ok : goal.returns-clause-ok
returns-clause-ok c =
    let new = c.push_counts.new.line.added in
    let end = end_line c.args.entries.now in
    let behind = c.args.tree.now ++ end in
    let left = c.args.left.now ++ behind in
    let lines = c.args.lines.now ++ left in
    let counts = c.counts_of.result in
    let exact = c.counts_of.ensures.exact in
    let begun = number_of kind.Begin c.args.entries.now in
    let committed = number_of kind.Commit c.args.entries.now in
    let is = ap (λ n. counts_line n counts.committed counts.returned) exact.begun ∙ ap (λ n. counts_line begun n counts.returned) exact.committed ∙ ap (λ n. counts_line begun committed n) exact.returned in
    on_ok_weaker c.push_counts.result (λ e. added c.args.text.now.added (codes "atomfs-trace 2\n") lines c.push.new.self.added new c.in_ok-push.ensures.ok
    (added c.push.new.self.added c.args.lines.now left c.push-2.new.self.added new c.in_ok-push-2.ensures.ok
    (added c.push-2.new.self.added c.args.left.now behind c.push-3.new.self.added new c.in_ok-push-3.ensures.ok
    (added c.push-3.new.self.added c.args.tree.now end c.push-4.new.self.added new c.in_ok-push-4.ensures.ok (e ∙ ap (λ l. c.push-4.new.self.added ++ l) is))))) c.push_counts.ensures.ok
