use Rattle.std.proofs.Common.{◌≡◌, ◌++◌, ◌==◌, not, drop}
use Rattle.std.specs.List.{filter}
use Rattle.fs_linearize_configurations.proofs.meeting.of_number.Given as goal

abbrev pub invariant-loop-call : goal.invariant-loop-call
invariant-loop-call l = record {
  some : l.some.items ++ filter (λ u. l.number == u.number) (drop l.call-index l.calls) ≡ filter (λ u. l.number == u.number) l.calls;
  others : l.others.items ++ filter (λ u. not (l.number == u.number)) (drop l.call-index l.calls) ≡ filter (λ u. not (l.number == u.number)) l.calls;
}
