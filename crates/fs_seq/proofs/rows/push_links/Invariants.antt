use Rattle.std.proofs.Common.{◌≡◌, ◌++◌, drop, reverse}
use Rattle.fs_seq_nodes.specs.code.Nodes.{pairs}
use Rattle.fs_seq.specs.code.Walks.{entries_below}
use Rattle.fs_seq.proofs.rows.push_links.Given as goal

-- the entries behind are ahead, the last one first
abbrev pub invariant-loop-i : goal.invariant-loop-i
invariant-loop-i l = l.ahead.items ≡ l.fn.ahead.items ++ reverse (entries_below l.key (pairs (drop l.i l.links)))
