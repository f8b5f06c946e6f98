use Rattle.std.proofs.Common.{◌≡◌, ◌+◌, ◌*◌, ◌≤◌, length, drop}
use Rattle.fs_names.specs.Keys.{path_text, names_text}
use Rattle.fs_names.specs.Limits.{largest, name_limit}
use Rattle.fs_names.proofs.path.Path.text_len.Given as goal

-- the bytes so far, and those of the names that are left, are all, each with a slash
abbrev pub invariant-loop-name : goal.invariant-loop-name
invariant-loop-name l = record {
  rest : l.len + length (names_text (drop l.name-index l.names)) ≡ length (path_text l.self);
  few : l.len ≤ (1 + name_limit largest) * l.name-index;
}
