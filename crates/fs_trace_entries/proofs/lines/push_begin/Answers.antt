use Rattle.std.proofs.Common.{◌+◌, ◌∙◌, ap, ap₂, codes, decimal}
use Rattle.std.proofs.lemmas.Result.{on_ok_weaker}
use Rattle.fs_trace_entries.specs.Entries.{line_text}
use Rattle.fs_trace_entries.proofs.lines.push_begin.Goals as goal

pub returns-clause-ok : goal.returns-clause-ok
returns-clause-ok c =
    let line = line_text (c.args.at + 1) c.deref.result.now c.args.number (codes " begins ") c.deref-2.result.now in
    let who = c.deref.ensures.value ∙ c.in_ok-who.ensures ∙ ap decimal c.get.ensures in
    let words = c.deref-2.ensures.value ∙ c.in_ok-words.ensures in
    on_ok_weaker c.push_line.result (λ e. (line, ap₂ (λ s w. line_text (c.args.at + 1) s c.args.number (codes " begins ") w) who words, e)) c.push_line.ensures.ok
