use Rattle.std.proofs.Common.{◌+◌, ◌∙◌, ap, codes}
use Rattle.std.proofs.lemmas.Result.{on_ok_weaker}
use Rattle.fs_trace_entries.specs.Entries.{line_text}
use Rattle.fs_trace_entries.proofs.lines.push_return.Goals as goal

pub returns-clause-ok : goal.returns-clause-ok
returns-clause-ok c =
    let line = line_text (c.args.at + 1) c.deref.result.now c.args.number (codes " returns ") c.deref-2.result.now in
    let words = c.deref-2.ensures.value ∙ c.in_ok-words.ensures in
    on_ok_weaker c.push_line.result (λ e. (line, (c.deref.result.now, ap (λ w. line_text (c.args.at + 1) c.deref.result.now c.args.number (codes " returns ") w) words), e)) c.push_line.ensures.ok
