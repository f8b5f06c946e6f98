use Rattle.std.proofs.Common.{◌≡◌, take}
use Rattle.fs_linearize_flat.proofs.flat_tree.are_same.Given as goal

abbrev pub invariant-loop-place : goal.invariant-loop-place
invariant-loop-place l = take l.place l.cells ≡ take l.place l.others
