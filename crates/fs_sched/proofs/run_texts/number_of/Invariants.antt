use Rattle.std.proofs.Common.{◌≡◌, take}
use Rattle.fs_sched.specs.RunTexts.{number_of}
use Rattle.fs_sched.proofs.run_texts.number_of.Given as goal

abbrev pub invariant-loop-entry : goal.invariant-loop-entry
invariant-loop-entry l = l.count ≡ number_of l.kind (take l.entry-index l.entries)
