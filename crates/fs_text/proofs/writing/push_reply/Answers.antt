use Rattle.std.proofs.Common.{rules, append_assoc, codes}
use Rattle.fs_words.proofs.WordLemmas.{joined_by_spaces}
use Rattle.fs_text.proofs.writing.push_reply.Goals as goal

pub returns-in_ok-push-in-Names-clause-ok : goal.returns-in_ok-push-in-Names-clause-ok
returns-in_ok-push-in-Names-clause-ok c =
    rw (c.in-Names.is, joined_by_spaces (codes "names") c.in-Names.names) (search (rules, append_assoc))
