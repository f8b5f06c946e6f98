use Rattle.std.proofs.Common.{sym, ◌∙◌}
use Rattle.fs_script.proofs.ScriptLemmas.{line_begun, line_taken, line_failed, lines_end, lines_done}
use Rattle.fs_script.proofs.reading.script_in.Goals as goal

pub lines-preserved-then-begins_schedule : goal.lines-preserved-then-begins_schedule
lines-preserved-then-begins_schedule c =
    line_begun _ c.lines.in_schedule c.lines.draft.script c.lines.left c.next.new.self c.in-Some.line c.lines.invariant c.in-Some.ensures.line (sym c.begins_schedule.ensures ∙ c.if-begins_schedule.true)

pub returns-in-Err : goal.returns-in-Err
returns-in-Err c =
    line_failed _ c.lines.in_schedule c.lines.draft.script c.lines.left c.next.new.self c.in-Some.line c.in-Err.kind c.lines.invariant c.in-Some.ensures.line (sym c.begins_schedule.ensures ∙ c.if-begins_schedule.false) c.in-Err.ensures

pub lines-preserved : goal.lines-preserved
lines-preserved c =
    line_taken _ c.lines.in_schedule c.lines.draft.script c.take_line.new.self.script c.lines.left c.next.new.self c.in-Some.line c.lines.invariant c.in-Some.ensures.line (sym c.begins_schedule.ensures ∙ c.if-begins_schedule.false) c.in_default-take_line.ensures

pub returns-then-not-in_schedule : goal.returns-then-not-in_schedule
returns-then-not-in_schedule c = rw c.number.ensures (lines_end _ c.lines.in_schedule c.lines.draft.script c.lines.left c.next.new.self c.lines.invariant c.in_default.ensures.line c.if-not-in_schedule.true)

pub returns : goal.returns
returns c = lines_done _ c.lines.in_schedule c.lines.draft.script c.lines.left c.next.new.self c.lines.invariant c.in_default.ensures.line c.if-not-in_schedule.false
