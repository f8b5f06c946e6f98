use Rattle.std.proofs.Common.{◌≡◌, ◌++◌, ◌∷◌, take}
use Rattle.std.specs.List.{flat_map}
use Rattle.fs_words.specs.Words.{escaped}
use Rattle.fs_script.proofs.node_line.push_steps.Given as goal

abbrev pub invariant-loop-step : goal.invariant-loop-step
invariant-loop-step l = record {
  added : l.line.added ≡ l.fn.line.added ++ flat_map (λ s. 47 ∷ escaped s.name) (take l.step-index l.above);
  before : l.line.before ≡ l.fn.line.before;
}
