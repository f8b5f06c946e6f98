use Rattle.fs_trace.proofs.Lining.{head_is}
use Rattle.fs_trace.proofs.trace_text.head_text.Goals as goal

pub returns : goal.returns
returns c every start moments starts tells =
    head_is every c.args.script.now.names moments start c.args.story.page c.push.new.self.before c.push.new.self.added c.as_slice-2.result.now c.kept.result.items starts tells c.in_ok-push.ensures.before c.in_ok-push.ensures.ok c.kept.ensures
