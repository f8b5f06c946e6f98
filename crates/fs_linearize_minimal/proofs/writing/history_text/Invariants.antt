use Rattle.std.proofs.Common.{◌≡◌, ◌++◌}
use Rattle.std.specs.List.{flat_map}
use Rattle.fs_script.specs.Journals.{opening}
use Rattle.fs_linearize_minimal.specs.Texts.{heard_line}
use Rattle.fs_linearize_minimal.proofs.writing.history_text.Given as goal

abbrev pub invariant-loop-entry : goal.invariant-loop-entry
invariant-loop-entry l = l.text.items ≡ opening l.start ++ flat_map heard_line l.yielded
