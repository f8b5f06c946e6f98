use Rattle.std.proofs.Common.{◌≡◌, drop}
use Rattle.fs_linearize_minimal.specs.Reasons.{are_among}
use Rattle.fs_linearize_minimal.proofs.reason.are_among.Given as goal

abbrev pub invariant-loop-reply : goal.invariant-loop-reply
invariant-loop-reply l = are_among (drop l.reply-index l.replies) l.others ≡ are_among l.replies l.others
