use Rattle.std.proofs.Common.{◌≡◌, ◌++◌, not, drop}
use Rattle.std.specs.List.{filter}
use Rattle.fs_linearize_histories.specs.Meeting.{calls_meet}
use Rattle.fs_linearize_configurations.proofs.meeting.that_meet.Given as goal

abbrev pub invariant-loop-call : goal.invariant-loop-call
invariant-loop-call l = record {
  some : l.some.items ++ filter (λ u. calls_meet l.siblings l.one u.call.now) (drop l.call-index l.calls) ≡ filter (λ u. calls_meet l.siblings l.one u.call.now) l.calls;
  others : l.others.items ++ filter (λ u. not (calls_meet l.siblings l.one u.call.now)) (drop l.call-index l.calls) ≡ filter (λ u. not (calls_meet l.siblings l.one u.call.now)) l.calls;
}
