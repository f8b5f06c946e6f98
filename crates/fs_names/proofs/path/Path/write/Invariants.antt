use Rattle.std.proofs.Common.{◌≡◌, ◌++◌, ◌+◌, ◌≤◌, length, drop, vec_len, vec_capacity}
use Rattle.fs_names.specs.Keys.{path_text, names_text}
use Rattle.fs_names.proofs.path.Path.write.Given as goal

-- the text so far, and the names that are left, are the path, and there is room for them
abbrev pub invariant-loop-name : goal.invariant-loop-name
invariant-loop-name l = record {
  written : l.text.items ++ names_text (drop l.name-index l.names) ≡ l.fn.text.items ++ path_text l.self;
  room : vec_len l.text + length (names_text (drop l.name-index l.names)) ≤ vec_capacity l.text;
}
