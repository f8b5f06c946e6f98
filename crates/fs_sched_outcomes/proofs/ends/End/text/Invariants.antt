use Rattle.std.proofs.Common.{◌≡◌, take}
use Rattle.std.specs.List.{flat_map}
use Rattle.fs_sched_outcomes.specs.Ends.{reply_line}
use Rattle.fs_sched_outcomes.proofs.ends.End.text.Given as goal

abbrev pub invariant-loop-reply : goal.invariant-loop-reply
invariant-loop-reply l = l.text.items ≡ flat_map reply_line (take l.reply-index l.self.replies)
