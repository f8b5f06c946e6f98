use Rattle.std.specs.Prelude.{option_copied}
use Rattle.fs_linearize.proofs.BeginLemmas.{if_begun, item_there, entry_begins}
use Rattle.fs_linearize.proofs.telling.call_at.Goals as goal

pub returns-in-Some : goal.returns-in-Some
returns-in-Some c = λ well.
    if_begun c.args.journal.now c.args.number c.begun_as.result
    (entry_begins c.args.journal.now c.args.place c.args.number c.in-Some.entry.now (option_copied c.begun_as.result) well (item_there c.args.journal.now c.args.place c.in-Some.entry.now c.in-Some.ensures.lookup.3.0 c.in-Some.ensures.lookup.1) c.begun_as.ensures)
