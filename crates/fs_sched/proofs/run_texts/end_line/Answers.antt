use Rattle.std.proofs.Common.{◌∙◌, ◌++◌, ap}
use Rattle.fs_sched.specs.RunTexts.{counts_line}
use Rattle.fs_sched.proofs.RunTextLemmas.{line_kept}
use Rattle.fs_sched.proofs.run_texts.end_line.Goals as goal

pub returns : goal.returns
returns c =
    line_kept _ _ _ _ c.kept.ensures (c.in_ok-push_counts.ensures.before ∙ c.new-line.ensures.before ∙ c.new.ensures.items)
    (c.in_ok-push_counts.ensures.ok ∙ ap (λ z. z ++ counts_line c.args.counts.begun c.args.counts.committed c.args.counts.returned) c.new-line.ensures.added)
