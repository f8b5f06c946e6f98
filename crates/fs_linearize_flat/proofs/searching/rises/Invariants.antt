use Rattle.std.proofs.Common.{◌≡◌, ◌-◌, ◌≤◌, true, drop, length}
use Rattle.std.specs.FinMap.{is_sorted}
use Rattle.fs_names.specs.Keys.{key_cmp}
use Rattle.fs_linearize_flat.proofs.searching.rises.Given as goal

abbrev pub invariant-loop-place : goal.invariant-loop-place
invariant-loop-place l = record { within : l.place ≤ length l.cells; rises : is_sorted key_cmp (drop (l.place - 1) l.cells) ≡ true }

-- each round is one place nearer to the first
abbrev pub decreases-loop-place : goal.decreases-loop-place
decreases-loop-place l = l.place
