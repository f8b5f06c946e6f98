use Rattle.std.proofs.Common.{◌≡◌}
use Rattle.fs_linearize_text.specs.Texts.{heard_by}
use Rattle.fs_linearize_text.specs.code.Walks.{left_by}
use Rattle.fs_linearize_text.proofs.history.heard_by.Given as goal

abbrev pub invariant-loop-entry : goal.invariant-loop-entry
invariant-loop-entry l = record { heard : l.heard.items ≡ heard_by l.yielded l.marks; left : l.left ≡ left_by l.yielded l.marks }
