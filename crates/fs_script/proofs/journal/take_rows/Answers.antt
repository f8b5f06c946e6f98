use Rattle.std.proofs.Common.{sym, ◌∙◌}
use Rattle.fs_script.proofs.StartLemmas.{ends_so, row_taken, at_entries, at_wrong, at_end, some_told, none_told}
use Rattle.fs_script.proofs.journal.take_rows.Goals as goal

pub returns-then-is_word : goal.returns-then-is_word
returns-then-is_word c =
    ends_so c.args.limits c.args.lines.now c.args.rows.now.items c.lines.rows.items c.lines.numbers.items _ _ c.lines.invariant
    (at_entries c.args.limits c.lines.lines c.next.new.self c.in-Some.line c.in-Some.ensures.line (sym c.is_word.ensures ∙ c.if-is_word.true))

pub returns-in_default-2 : goal.returns-in_default-2
returns-in_default-2 c =
    let untold = none_told c.in_ok-row.field-0 _ c.in_ok-row.ensures c.in_default-2.is in
    ends_so c.args.limits c.args.lines.now c.args.rows.now.items c.lines.rows.items c.lines.numbers.items _ _ c.lines.invariant
    (at_wrong c.args.limits c.lines.lines c.next.new.self c.in-Some.line untold.0 c.in-Some.ensures.line (sym c.is_word.ensures ∙ c.if-is_word.false) untold.1)

pub lines-preserved : goal.lines-preserved
lines-preserved c =
    row_taken c.args.limits c.args.lines.now c.lines.lines c.next.new.self c.args.rows.now.items c.lines.rows.items _ c.lines.numbers.items _ c.in-Some.line c.in-Some-2.row
    c.lines.invariant c.in-Some.ensures.line (sym c.is_word.ensures ∙ c.if-is_word.false) (some_told c.in_ok-row.field-0 c.in-Some-2.row _ c.in_ok-row.ensures c.in-Some-2.is)
    c.in_ok-push-2.ensures.items c.in_ok-push.ensures.items

pub returns : goal.returns
returns c = rw c.number.ensures (
    ends_so c.args.limits c.args.lines.now c.args.rows.now.items c.lines.rows.items c.lines.numbers.items _ _ c.lines.invariant (at_end c.args.limits c.lines.lines c.next.new.self c.in_default.ensures.line))
