use Rattle.std.proofs.Common.{◌≡◌, ◌∙◌, List, ap, subst}
use Rattle.fs_timeline.specs.Verdicts.{verdict}
use Rattle.fs_timeline.specs.declared.entry.Entry.{Entry}
use Rattle.fs_trace_replay.specs.Commits.{front_by}
use Rattle.fs_trace_entries.specs.Entries.{IsWrittenBehind}
use Rattle.fs_trace_entries.proofs.running.text_in.Goals as goal

pub returns-in-Ok-text_of-clause-traced : goal.returns-in-Ok-text_of-clause-traced
returns-in-Ok-text_of-clause-traced c well replay =
    let start = c.in_ok-journal.journal.start in
    let es = c.in_ok-journal.journal.entries.items in
    let judged : c.in-Ok.verdict ≡ verdict start es = c.in-Ok.ensures.verdict ∙ ap (verdict start) c.as_slice.ensures.value in
    let front = c.as_slice-2.ensures.value ∙ c.front_by-front.ensures ∙ ap (λ v. front_by v es) judged in
    (start, es, c.args.tree.now, c.in_ok-journal.ensures.ok, replay, subst (λ (f : List Entry). IsWrittenBehind c.args.notation f c.args.tree.now c.in-Ok-text_of.text.items) front c.in-Ok-text_of.ensures)
