use Rattle.fs_embed.proofs.replies.reply_of.Goals as goal

pub returns : goal.returns
returns c = rw (c.timeline.ensures, c.new.ensures) at c.find_reply.ensures
