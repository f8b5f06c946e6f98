use Rattle.std.proofs.Common.{◌≡◌, take}
use Rattle.fs_seq.proofs.rows.longer.Given as goal

-- the names so far were copied
abbrev pub invariant-loop-above : goal.invariant-loop-above
invariant-loop-above l = l.longer.items ≡ take l.above-index l.key
