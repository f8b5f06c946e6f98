use Rattle.fs_seq.proofs.PlainReplies.{earlier_replies_are_plain}
use Rattle.fs_seq.proofs.row_laws.earlier_replies_are_plain.Goals as goal

pub returns : goal.returns
returns c = earlier_replies_are_plain
