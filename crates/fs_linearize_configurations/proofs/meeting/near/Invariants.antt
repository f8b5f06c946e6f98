use Rattle.fs_linearize_configurations.proofs.NearLemmas.{NearUpTo}
use Rattle.fs_linearize_configurations.proofs.meeting.near.Given as goal

abbrev pub invariant-loop-place : goal.invariant-loop-place
invariant-loop-place l = NearUpTo l.number l.siblings l.calls l.place l.near.items l.rest.items
