use Rattle.std.proofs.Common.{◌≡◌, ◌≤◌, vec_capacity, length}
use Rattle.std.specs.List.{All}
use Rattle.fs_blocks.specs.code.Rooms.{IsRoom}
use Rattle.fs_blocks.proofs.rooms.Rooms.new.Given as goal

abbrev pub invariant-loop : goal.invariant-loop
invariant-loop g l = record {
  count : length l.vectors.items ≡ l.counter;
  room : l.count ≤ vec_capacity l.vectors;
  rooms : All (IsRoom g.row.SIZE) l.vectors.items;
  memory : l.memory ≡ l.initial.memory;
}
