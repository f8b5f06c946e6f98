use Rattle.std.proofs.Common.{subst, sym}
use Rattle.fs_linearize_histories.specs.declared.heard.Heard.{Heard}
use Rattle.fs_linearize.specs.code.Tellings.{IsEntryFor}
use Rattle.fs_timeline.specs.declared.entry.Entry.TheVariants.{Return}
use Rattle.fs_linearize.proofs.TellingLemmas.{return_for}
use Rattle.fs_linearize.proofs.telling.entry_for.Goals as goal

pub returns-in_ok-reply-in-Return-clause-entry : goal.returns-in_ok-reply-in-Return-clause-entry
returns-in_ok-reply-in-Return-clause-entry c = λ due_each.
    subst (λ (x : Heard). IsEntryFor c.args.start.now c.args.journal.now x (Return c.in-Return.number c.in_ok-reply-in-Return.reply)) (sym c.in-Return.is)
    (return_for c.args.start.now c.args.journal.now c.in-Return.number c.in-Return.pattern c.in_ok-reply-in-Return.reply (c.in_ok-reply-in-Return.ensures.reply due_each))
