use Rattle.std.proofs.Common.{List, [], ◌∷◌, ◌++◌, refl, ap, subst, ◌∙◌}
use Rattle.fs_timeline.specs.declared.entry.Entry.{Entry}
use Rattle.fs_timeline.specs.declared.entry.Entry.TheVariants.{Commit}
use Rattle.fs_linearize.specs.code.Tellings.{PlaysNext}
use Rattle.fs_linearize.specs.declared.telling.Telling.{Telling}
use Rattle.fs_linearize.proofs.TellingLemmas.{tells_commit}
use Rattle.fs_linearize.proofs.telling.with_commit.Goals as goal

pub returns : goal.returns
returns c =
    let old = c.args.telling in
    let number = c.args.number in
    let new : Telling = record { journal = c.push.new.self; tree = c.play_next.new.tree; kept = c.play_next.new.kept; begins = old.begins; rest = old.rest } in
    let pushed = c.in_ok-push.ensures.items ∙ ap (λ n. old.journal.items ++ Commit n ∷ []) c.new.ensures in
    let plays = subst (λ (es : List Entry). PlaysNext number es old.tree old.kept.items new.tree new.kept.items) c.deref.ensures.value c.in_ok-play_next.ensures in
    tells_commit old new number pushed refl plays
