use Rattle.std.proofs.Common.{◌≡◌, ◌++◌, length}
use Rattle.fs_calls.specs.Tree.{Tree, from_list}
use Rattle.fs_linearize_flat.proofs.changes.ordered.Given as goal

abbrev pub invariant-loop-cell : goal.invariant-loop-cell
invariant-loop-cell l = (rest : Tree) × (l.initial.left.items ≡ l.left.items ++ rest) × (l.new.items ≡ from_list rest)

-- each round leaves one less
abbrev pub decreases-loop-cell : goal.decreases-loop-cell
decreases-loop-cell l = length l.left.items
