use Rattle.fs_linearize_dialects.proofs.WideLemmas.{wide_pushed}
use Rattle.fs_linearize_dialects.proofs.widening.widened_entries.Goals as goal

pub loop-entry-preserved : goal.loop-entry-preserved
loop-entry-preserved c h knows =
    wide_pushed c.args.rows.now h c.loop-entry.yielded c.loop-entry.wide.items c.push.new.self.items c.in-Some.entry c.in_ok-widened_entry.field-0 c.in_ok-push.ensures.items (c.in_ok-widened_entry.ensures h knows) (c.loop-entry.invariant h knows)
