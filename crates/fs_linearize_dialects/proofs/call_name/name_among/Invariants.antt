use Rattle.std.proofs.Common.{◌≡◌, drop}
use Rattle.fs_linearize_dialects.specs.Names.{name_among}
use Rattle.fs_linearize_dialects.proofs.call_name.name_among.Given as goal

abbrev pub invariant-loop-name : goal.invariant-loop-name
invariant-loop-name l = name_among l.word (drop l.name-index l.names) ≡ name_among l.word l.names
