use Rattle.std.proofs.Common.{sym, ap, ◌∙◌, codes, ◌+◌, ℕ}
use Rattle.std.specs.Option.{option_map}
use Rattle.memchr.proofs.lemmas.ValueLemmas.{FindsNeedle-value}
use Rattle.fs_sched_reach.proofs.plain.schedule_start.Goals as goal

pub returns-in-Some-clause-start : goal.returns-in-Some-clause-start
returns-in-Some-clause-start c = ap (option_map (λ (at : ℕ). at + 10)) (sym c.in-Some.is ∙ FindsNeedle-value c.args.text.now (codes "\nschedule\n") _ c.find.ensures)

pub returns-in-None-clause-start : goal.returns-in-None-clause-start
returns-in-None-clause-start c = ap (option_map (λ (at : ℕ). at + 10)) (sym c.in-None.is ∙ FindsNeedle-value c.args.text.now (codes "\nschedule\n") _ c.find.ensures)
