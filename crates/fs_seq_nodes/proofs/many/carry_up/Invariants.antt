use Rattle.std.proofs.Common.{◌≡◌, ◌≤◌, ◌<◌, ◌+◌, length}
use Rattle.std.specs.Prelude.{insert}
use Rattle.fs_seq_nodes.specs.declared.piece.TheConstants.{MOST}
use Rattle.fs_seq_nodes.specs.code.Lists.{flat, before, list_at, AllSome}
use Rattle.fs_seq_nodes.proofs.many.carry_up.Given as goal

-- with the entry that is carried before the next list, the entries are those that are wanted
abbrev pub invariant-loop-k : goal.invariant-loop-k
invariant-loop-k l = record {
  whole : insert (flat l.lists.items) (before l.lists.items l.k) l.carried ≡ insert (flat l.fn.lists.items) (before l.fn.lists.items l.fn.i + l.fn.at) l.fn.link;
  up : l.k ≤ l.room;
  list : l.room < length l.lists.items;
  room : length (list_at l.lists.items l.room) < MOST;
  lists : AllSome l.lists.items;
}
