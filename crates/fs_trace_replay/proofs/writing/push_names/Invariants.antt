use Rattle.std.proofs.Common.{◌≡◌, ◌++◌, ◌∷◌, take}
use Rattle.std.specs.List.{flat_map}
use Rattle.fs_words.specs.Words.{escaped}
use Rattle.fs_trace_replay.proofs.writing.push_names.Given as goal

abbrev pub invariant-loop-name : goal.invariant-loop-name
invariant-loop-name l = record {
  added : l.text.added ≡ l.fn.text.added ++ flat_map (λ n. 47 ∷ escaped n) (take l.name-index l.names);
  before : l.text.before ≡ l.fn.text.before;
}
