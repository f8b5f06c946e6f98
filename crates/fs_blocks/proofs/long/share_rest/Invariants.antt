use Rattle.std.proofs.Common.{◌≡◌}
use Rattle.fs_blocks.proofs.long.share_rest.Given as goal

abbrev pub invariant-loop-number : goal.invariant-loop-number
invariant-loop-number l = l.chunks.items ≡ l.initial.chunks.items
