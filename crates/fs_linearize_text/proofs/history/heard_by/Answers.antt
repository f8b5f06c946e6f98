use Rattle.fs_linearize_text.proofs.ReadingLemmas.{heard_pushed, left_pushed}
use Rattle.fs_linearize_text.proofs.history.heard_by.Goals as goal

pub loop-entry-preserved : goal.loop-entry-preserved
loop-entry-preserved c = record {
  heard = heard_pushed c.loop-entry.yielded c.in-Some.entry c.args.marks.now c.loop-entry.left.now c.loop-entry.heard.items c.push_heard.new.heard.items c.loop-entry.invariant.heard c.loop-entry.invariant.left c.in_ok-left.ensures.0;
  left = left_pushed c.loop-entry.yielded c.in-Some.entry c.args.marks.now c.loop-entry.left.now c.in_ok-left.left.now c.loop-entry.invariant.left c.in_ok-left.ensures.1;
}
