use Rattle.std.proofs.Common.{sym, ap, ◌∙◌}
use Rattle.std.specs.List.{list_any}
use Rattle.fs_sched_reach.specs.Plain.{has_words_from}
use Rattle.fs_sched_reach.specs.Words.{is_at_sign}
use Rattle.fs_sched_reach.proofs.plain.has_words.Goals as goal

pub returns-in-Some : goal.returns-in-Some
returns-in-Some c = c.has_at_sign.ensures ∙ ap (list_any is_at_sign) c.split_at.ensures.back ∙ ap (has_words_from c.args.text.now) (sym c.in-Some.is ∙ c.schedule_start.ensures.start)
