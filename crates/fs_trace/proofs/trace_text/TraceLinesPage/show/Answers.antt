use Rattle.std.proofs.Common.{◌∙◌}
use Rattle.std.proofs.lemmas.Result.{on_ok_weaker}
use Rattle.fs_trace_story.specs.Shown.{deed_shown}
use Rattle.fs_trace.proofs.Lining.{lines_more}
use Rattle.fs_trace.proofs.trace_text.TraceLinesPage.show.Goals as goal

pub returns : goal.returns
returns c = record {
  shown = on_ok_weaker c.push_line.result
      (λ adds start told has. (c.push_line.ensures.before ∙ has.0, lines_more told (deed_shown c.args.line) start.text.added c.args.self.now.text.added c.push_line.new.text.added has.1 adds))
      c.push_line.ensures.ok;
}
