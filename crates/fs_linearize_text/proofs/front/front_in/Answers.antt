use Rattle.fs_words.proofs.ReadLemmas.{words_in}
use Rattle.fs_linearize_text.specs.Texts.{history_by}
use Rattle.fs_linearize_text.proofs.FrontLemmas.{none_known, some_known}
use Rattle.fs_linearize_text.proofs.front.front_in.Goals as goal

pub returns-in-Ok-clause-none : goal.returns-in-Ok-clause-none
returns-in-Ok-clause-none g c =
    none_known c.in-Ok.told (history_by c.args.dialect.now (words_in c.args.lines.now)) (c.in_ok-start.field-0.start, c.in_ok-start.field-0.entries.items) c.cut_at-before.result.0.items c.cut_at-before.result.1 c.args.limit c.args.place c.in_ok-start.ensures.ok c.cut_at-before.ensures c.in-Ok.ensures.none

pub returns-in-Ok-clause-some : goal.returns-in-Ok-clause-some
returns-in-Ok-clause-some g c =
    some_known c.in-Ok.told (λ text. text.items) (history_by c.args.dialect.now (words_in c.args.lines.now)) (c.in_ok-start.field-0.start, c.in_ok-start.field-0.entries.items) c.cut_at-before.result.0.items c.cut_at-before.result.1 c.args.limit c.args.place c.in_ok-start.ensures.ok
    c.cut_at-before.ensures c.in-Ok.ensures.some
