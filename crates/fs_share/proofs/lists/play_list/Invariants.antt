use Rattle.std.proofs.Common.{◌≡◌}
use Rattle.fs_share.proofs.lists.play_list.Given as goal

abbrev pub invariant-loop-call : goal.invariant-loop-call
invariant-loop-call g l = l.session.count ≡ l.call-index
