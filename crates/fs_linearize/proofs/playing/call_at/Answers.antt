use Rattle.std.specs.Prelude.{option_copied}
use Rattle.fs_linearize_histories.specs.Heard.{entries}
use Rattle.fs_linearize.proofs.BeginLemmas.{if_begun, item_there, heard_begins}
use Rattle.fs_linearize.proofs.playing.call_at.Goals as goal

pub returns-in-Some : goal.returns-in-Some
returns-in-Some c =
    if_begun (entries c.args.history.now) c.args.number c.begun_as.result
    (heard_begins c.args.history.now c.args.place c.args.number c.in-Some.entry.now (option_copied c.begun_as.result) c.requires (item_there c.args.history.now c.args.place c.in-Some.entry.now c.in-Some.ensures.lookup.3.0 c.in-Some.ensures.lookup.1) c.begun_as.ensures)
