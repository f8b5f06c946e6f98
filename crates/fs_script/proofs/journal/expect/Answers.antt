use Rattle.std.proofs.Common.{sym, ◌∙◌}
use Rattle.fs_script.proofs.StartLemmas.{expected, unexpected, none_expected}
use Rattle.fs_script.proofs.journal.expect.Goals as goal

pub returns-then-is_word : goal.returns-then-is_word
returns-then-is_word c = expected c.args.wanted.now c.args.lines.now c.next.new.self c.in-Some.line c.in-Some.ensures.line (sym c.is_word.ensures ∙ c.if-is_word.true)

pub returns-else-is_word : goal.returns-else-is_word
returns-else-is_word c = rw c.bad_start.ensures (unexpected c.args.wanted.now c.args.lines.now c.next.new.self c.in-Some.line c.in-Some.ensures.line (sym c.is_word.ensures ∙ c.if-is_word.false))

pub returns-in-None : goal.returns-in-None
returns-in-None c = rw (c.bad_start-in-None.ensures, c.number.ensures) (none_expected c.args.wanted.now c.args.lines.now c.next.new.self c.in-None.ensures.line)
