use Rattle.std.proofs.Common.{◌≡◌, length}
use Rattle.fs_nodes.specs.Stores.{child}
use Rattle.fs_core_seats.specs.code.Searches.{AreWays}
use Rattle.fs_core_seats.proofs.helping.find_ways.Given as goal

-- the ways so far
abbrev pub invariant-loop-i : goal.invariant-loop-i
invariant-loop-i l = record {
  ways : AreWays (child l.store) l.seats l.moved l.listed l.i l.ways;
  same : length l.ways ≡ length l.fn.ways;
}
