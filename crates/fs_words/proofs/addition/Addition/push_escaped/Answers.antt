use Rattle.std.proofs.Common.{rules}
use Rattle.fs_words.proofs.EscapeLemmas.{escaped_plain}
use Rattle.fs_words.proofs.addition.Addition.push_escaped.Goals as goal

pub returns-then-not-any_escaped-clause-ok : goal.returns-then-not-any_escaped-clause-ok
returns-then-not-any_escaped-clause-ok c = rw (escaped_plain c.args.bytes.now (search rules)) (search rules)
