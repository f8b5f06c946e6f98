use Rattle.std.proofs.Common.{◌∙◌, refl}
use Rattle.fs_trace_entries.specs.Entries.{IsLine}
use Rattle.fs_trace_entries.proofs.EntryLines.{each_more}
use Rattle.fs_trace_entries.proofs.lines.lines_of.Goals as goal

pub loop-at-preserved : goal.loop-at-preserved
loop-at-preserved c = record {
  before = c.push_entry.ensures.before ∙ c.loop-at.invariant.before;
  lines = each_more IsLine c.args.entries.now c.loop-at.at _ c.index-entries-at.result c.loop-at.text.added c.push_entry.new.text.added c.loop-at-test.true c.index-entries-at.is refl c.loop-at.invariant.lines c.in_ok-push_entry.ensures.ok;
}
