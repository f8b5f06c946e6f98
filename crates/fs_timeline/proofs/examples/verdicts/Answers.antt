use Rattle.std.proofs.Common.{refl}
use Rattle.fs_calls.specs.Tree.{look, inserted, removed, renamed}
use Rattle.fs_calls.specs.Outcomes.{fault, reply, after}
use Rattle.fs_timeline.proofs.examples.verdicts.Goals as goal

pub returns : goal.returns
unfolding look inserted removed renamed fault reply after
returns c = record {
  empty = refl;
  unreturned = refl;
  seat_busy = refl;
  begin_twice = refl;
  commit_unbegun = refl;
  commit_twice = refl;
  return_uncommitted = refl;
  return_twice = refl;
  any_order = refl;
}
