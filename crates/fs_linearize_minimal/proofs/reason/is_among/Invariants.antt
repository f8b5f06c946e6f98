use Rattle.std.proofs.Common.{◌≡◌, drop}
use Rattle.fs_linearize_histories.specs.Heard.{is_among}
use Rattle.fs_linearize_minimal.proofs.reason.is_among.Given as goal

abbrev pub invariant-loop-other : goal.invariant-loop-other
invariant-loop-other l = is_among l.reply (drop l.other-index l.replies) ≡ is_among l.reply l.replies
