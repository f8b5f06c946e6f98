use Rattle.fs_machine.proofs.StepsAddEntries.{adds_entries}
use Rattle.fs_machine.proofs.laws.steps_add_their_entries.Goals as goal

pub returns : goal.returns
returns c = adds_entries
