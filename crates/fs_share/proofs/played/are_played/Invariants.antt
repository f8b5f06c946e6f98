use Rattle.std.proofs.Common.{◌≡◌, length, map, take}
use Rattle.fs_share.specs.code.Begun.{AreBegun}
use Rattle.fs_share.proofs.played.are_played.Given as goal

abbrev pub invariant-loop-entry : goal.invariant-loop-entry
invariant-loop-entry l = record { same : length l.begun.items ≡ length l.lists; begun : AreBegun (map (λ calls. calls.items) l.lists) l.begun.items (take l.entry-index l.entries) }
