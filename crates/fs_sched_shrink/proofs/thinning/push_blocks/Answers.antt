use Rattle.std.proofs.Common.{[], ◌++◌, sym, ap, ◌∙◌, refl}
use Rattle.std.specs.List.{flat_map}
use Rattle.fs_words.specs.Lines.{lines_of}
use Rattle.fs_sched_shrink.specs.code.Thinning.{words_thinned, blocks_thinned, ended}
use Rattle.std.proofs.lemmas.Result.{IfOk-equal}
use Rattle.fs_sched_shrink.proofs.Blocks.{cut_ended}
use Rattle.fs_sched_shrink.proofs.Lines.{adds_all, adds_schedule}
use Rattle.fs_sched_shrink.proofs.thinning.push_blocks.Goals as goal

pub returns-then-begins_schedule : goal.returns-then-begins_schedule
returns-then-begins_schedule c =
    IfOk-equal c.push_schedule.result c.push_schedule.new.text.items (c.push_line.new.text.items ++ flat_map ended (words_thinned c.lines.flags.now (lines_of c.in-Some.rest.now))) _ c.push_schedule.ensures
    (adds_schedule c.args.kept.now c.lines.flags.now (lines_of c.args.lines.now) (lines_of c.lines.left.now) (lines_of c.in-Some.rest.now) c.in-Some.line.now c.args.text.now.items c.lines.text.items c.push_line.new.text.items
    c.lines.invariant c.in-Some.ensures.0 (sym c.begins_schedule.ensures ∙ c.if-begins_schedule.true) c.in_ok-push_line.ensures)

pub returns : goal.returns
returns c =
    adds_all (blocks_thinned c.args.kept.now (lines_of c.args.lines.now)) (blocks_thinned c.lines.flags.now (lines_of c.lines.left.now)) [] c.args.text.now.items c.lines.text.items
    c.lines.invariant (ap (blocks_thinned c.lines.flags.now) c.in_default.ensures ∙ cut_ended c.lines.flags.now) refl
