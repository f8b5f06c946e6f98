use Rattle.std.proofs.Common.{ap, sym, subst, ◌∙◌}
use Rattle.fs_trace_replay.specs.code.Sights.{StandsAt, kind_in}
use Rattle.fs_trace_replay.proofs.ChangeLemmas.{stat_tells}
use Rattle.fs_trace_replay.proofs.changes.kind_at.Goals as goal

pub returns : goal.returns
returns c = subst (StandsAt c.args.tree.now.tree c.args.path.now) (sym (c.kind_in.ensures ∙ ap kind_in c.in_ok-reply.ensures)) (stat_tells c.args.tree.now.limits c.args.tree.now.tree c.args.path.now c.requires)
