use Rattle.fs_sched_shrink.proofs.Blocks.{thinned_again}
use Rattle.fs_sched_shrink.proofs.trying.text_of.Goals as goal

pub returns : goal.returns
returns c script is = thinned_again c.args.input.now c.in_ok-text.text.items script c.args.kept.now is c.in_ok-text.ensures.lines c.in_ok-text.ensures.short
