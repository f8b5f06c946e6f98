use Rattle.std.proofs.Common.{◌≡◌}
use Rattle.fs_share.proofs.session.Session.call.Given as goal

-- no call has returned yet, and the share counts those before
abbrev pub invariant-loop : goal.invariant-loop
invariant-loop g l = (l.count ≡ l.initial.count) × (l.share.parts ≡ 1) × (l.share.amount ≡ l.count)
