use Rattle.std.proofs.Common.{◌≡◌, map, take}
use Rattle.fs_sched_outcomes.specs.Lines.{labels_of}
use Rattle.fs_sched_outcomes.proofs.lines.labels_of.Given as goal

abbrev pub invariant-loop-place : goal.invariant-loop-place
invariant-loop-place l = map (λ label. label.items) l.labels.items ≡ labels_of l.names (take l.place-index l.places)
