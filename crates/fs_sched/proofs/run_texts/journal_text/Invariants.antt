use Rattle.std.proofs.Common.{◌≡◌, ◌++◌}
use Rattle.std.specs.List.{flat_map}
use Rattle.fs_names.specs.Limits.{largest}
use Rattle.fs_text.specs.Fits.{AllFit}
use Rattle.fs_text.specs.Journal.{entry_line}
use Rattle.fs_script.specs.Journals.{opening}
use Rattle.fs_sched.specs.RunTexts.{number_of}
use Rattle.fs_sched.specs.declared.run_texts.EntryKind.TheVariants as kind
use Rattle.fs_sched.proofs.run_texts.journal_text.Given as goal

-- the text and the numbers of the entries so far
abbrev pub invariant-loop-entry : goal.invariant-loop-entry
invariant-loop-entry l = record {
  fit : AllFit largest l.yielded;
  text : l.text.items ≡ opening l.start ++ flat_map entry_line l.yielded;
  begun : l.begun ≡ number_of kind.Begin l.yielded;
  committed : l.committed ≡ number_of kind.Commit l.yielded;
  returned : l.returned ≡ number_of kind.Return l.yielded;
}
