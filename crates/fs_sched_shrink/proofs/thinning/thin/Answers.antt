use Rattle.fs_sched_shrink.proofs.Lines.{all_written}
use Rattle.fs_sched_shrink.proofs.thinning.thin.Goals as goal

pub returns : goal.returns
returns c =
    all_written c.args.kept.now c.args.input.now c.in-Some.first.now c.in-Some.rest.now c.new-text.result.items c.push_line.new.text.items c.push_blocks.new.text.items
    c.in-Some.ensures.0 c.new-text.ensures.items c.in_ok-push_line.ensures c.in_ok-push_blocks.ensures
