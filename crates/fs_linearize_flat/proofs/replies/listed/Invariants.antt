use Rattle.std.proofs.Common.{◌≡◌, take}
use Rattle.fs_linearize_flat.specs.code.Cells.{lent_names}
use Rattle.fs_linearize_flat.proofs.replies.listed.Given as goal

-- the names so far are told
abbrev pub invariant-loop-name : goal.invariant-loop-name
invariant-loop-name l = l.list.names ≡ lent_names (take l.name-index l.names)
