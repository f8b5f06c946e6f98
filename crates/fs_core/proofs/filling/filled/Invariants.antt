use Rattle.std.proofs.Common.{◌≡◌, None, map, take}
use Rattle.fs_names.specs.Limits.{in_blocks}
use Rattle.fs_nodes.specs.Seen.{seen}
use Rattle.fs_nodes.specs.Stores.{graph_of, used_below}
use Rattle.fs_seq.specs.Rows.{row_of}
use Rattle.fs_locks.specs.Holding.{holder, room}
use Rattle.fs_machine.specs.States.{IsStart}
use Rattle.fs_core_seats.specs.code.Searches.{AreBelow}
use Rattle.fs_core.proofs.filling.filled.Given as goal

-- the nodes are those of the rows so far
abbrev pub invariant-loop-i : goal.invariant-loop-i
invariant-loop-i l = record {
  starts : IsStart l.limit (record { limits = l.start.limits; tree = map row_of (take l.i l.rows.items) }) (graph_of l.store);
  count : used_below (graph_of l.store).shape l.limit ≡ l.i;
  limit : (seen l.store).limit ≡ l.limit;
  form : (seen l.store).in_blocks ≡ in_blocks l.start.limits;
  holders : holder l.holders ≡ λ n. None;
  room : AreBelow (graph_of l.store) (room l.holders);
}
