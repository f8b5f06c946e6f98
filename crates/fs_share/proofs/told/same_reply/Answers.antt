use Rattle.fs_share.proofs.Same.{reply_is}
use Rattle.fs_share.proofs.told.same_reply.Goals as goal

pub returns : goal.returns
returns c = λ is. reply_is c.args.one.now c.args.other.now c.same.result c.same.ensures is
