use Rattle.std.proofs.Common.{[], ap, ◌∙◌, refl}
use Rattle.fs_words.specs.Lines.{lines_of}
use Rattle.fs_sched_shrink.specs.code.Thinning.{words_thinned}
use Rattle.fs_sched_shrink.proofs.Words.{thinned_ended}
use Rattle.fs_sched_shrink.proofs.Lines.{adds_all}
use Rattle.fs_sched_shrink.proofs.thinning.push_schedule.Goals as goal

pub returns : goal.returns
returns c =
    adds_all (words_thinned c.args.kept.now (lines_of c.args.lines.now)) (words_thinned c.lines.flags.now (lines_of c.lines.left.now)) [] c.args.text.now.items c.lines.text.items
    c.lines.invariant (ap (words_thinned c.lines.flags.now) c.in_default.ensures ∙ thinned_ended c.lines.flags.now) refl
