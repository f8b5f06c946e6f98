-- Replies that are compared and found the same are equal.
use Rattle.std.proofs.Common.{◌≡◌, Bool, IsTrue, sym, ◌∙◌}
use Rattle.fs_calls.specs.Replies.{same_reply}
use Rattle.fs_calls.specs.declared.reply.Reply.{Reply}
use Rattle.fs_timeline.proofs.ReplyLemmas.{same_reply_exact}

pub reply_is : (p q : Reply) (b : Bool) → b ≡ same_reply p q → IsTrue b → p ≡ q
reply_is p q b e h = same_reply_exact p q (sym e ∙ h)
