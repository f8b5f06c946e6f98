use Rattle.std.proofs.Common.{◌≡◌, ◌+◌, drop}
use Rattle.fs_linearize_histories.specs.Configurations.{place_of}
use Rattle.fs_linearize_configurations.proofs.numbers.place_of.Given as goal

abbrev pub invariant-loop-place : goal.invariant-loop-place
invariant-loop-place l = l.place + place_of l.number (drop l.place l.numbers) ≡ place_of l.number l.numbers
