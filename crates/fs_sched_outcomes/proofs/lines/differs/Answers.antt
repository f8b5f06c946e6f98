use Rattle.std.proofs.Common.{ap, ◌∙◌}
use Rattle.std.specs.List.{list_any}
use Rattle.fs_sched_outcomes.specs.Lines.{is_other}
use Rattle.fs_sched_outcomes.proofs.ListLemmas.{differs_of}
use Rattle.fs_sched_outcomes.proofs.lines.differs.Goals as goal

pub returns-in-len1-up : goal.returns-in-len1-up
returns-in-len1-up c = c.any_other.ensures ∙ ap (λ reply. list_any (is_other c.args.at reply) c.args.rows.now) c.reply_in.ensures ∙ differs_of c.args.rows.now c.args.at c.first-item.result c.in-len1-up.len_at_least c.first-item.is
