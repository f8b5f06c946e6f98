use Rattle.std.proofs.Common.{rules, ◌≡◌, Some}
use Rattle.atomfs_c.proofs.Called.{behind}
use Rattle.atomfs_c.proofs.replies.atomfs_reply_bytes.Goals as goal

pub returns-clause-replied : goal.returns-clause-replied
returns-clause-replied c =
    let is : c.args.handle.now.held.core ≡ Some c.deref.result.now = search rules in
    behind c.args.handle.now.held.core c.deref.result.now is c.tell_reply_bytes-status.ensures.replied
