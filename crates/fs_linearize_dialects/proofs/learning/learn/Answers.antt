use Rattle.std.proofs.Common.{◌≡◌, List}
use Rattle.fs_timeline.specs.declared.entry.Entry.{Entry}
use Rattle.fs_linearize_histories.specs.Histories.{Explains, IsHistory}
use Rattle.fs_linearize_dialects.specs.Dialects.{widened}
use Rattle.fs_linearize_dialects.specs.declared.dialect.Row.{Row}
use Rattle.fs_linearize_dialects.proofs.WideLemmas.{if_ok}
use Rattle.fs_linearize_dialects.specs.Learning.{learned, AreAmong}
use Rattle.fs_linearize_dialects.specs.declared.learning.Lesson.{Lesson}
use Rattle.fs_linearize_dialects.specs.declared.learning.End.TheVariants.{Whole}
use Rattle.fs_linearize_dialects.proofs.AcceptLemmas.{accepted}
use Rattle.fs_linearize_dialects.proofs.learning.learn.Goals as goal

pub returns-clause-accepted : goal.returns-clause-accepted
returns-clause-accepted c =
    let start = c.args.start.now in
    let h = c.args.history.now in
    if_ok c.learn_calls.result
    (λ (lesson : Lesson). (lesson.rows.items, lesson.end) ≡ learned start 0 h)
    (λ (lesson : Lesson). lesson.end ≡ Whole → IsHistory h → (all : List Row) → AreAmong all lesson.rows.items → (es : List Entry) × Explains start (widened all h) es)
    (λ lesson is whole known all among. accepted start h lesson.rows.items lesson.end all is whole known among)
    c.learn_calls.ensures
