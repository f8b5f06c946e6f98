use Rattle.std.proofs.Common.{List, subst}
use Rattle.fs_timeline.specs.declared.entry.Entry.{Entry}
use Rattle.fs_linearize.specs.code.Tellings.{IsEntryFor, AreDue}
use Rattle.fs_linearize.proofs.telling.with_heard.Goals as goal

pub returns-clause-journal : goal.returns-clause-journal
returns-clause-journal c =
    let start = c.args.start.now in
    let kept = c.args.telling.kept.items in
    let entry = c.in_ok-entry.entry in
    (entry, c.in_ok-push.ensures.items, subst (λ (es : List Entry). AreDue start es kept → IsEntryFor start es c.args.heard entry) c.deref.ensures.value c.in_ok-entry.ensures.entry)
