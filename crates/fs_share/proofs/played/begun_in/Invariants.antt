use Rattle.std.proofs.Common.{◌≡◌, take, count_by}
use Rattle.fs_share.specs.code.Begun.{begins_one}
use Rattle.fs_share.proofs.played.begun_in.Given as goal

abbrev pub invariant-loop-entry : goal.invariant-loop-entry
invariant-loop-entry l = l.count ≡ count_by begins_one (take l.entry-index l.entries)
