use Rattle.std.proofs.Common.{drop, sym, ◌∙◌, arith}
use Rattle.std.proofs.lemmas.List.{take-append-drop}
use Rattle.fs_trace.proofs.Heads.{cut_found, cut_last, cut_more}
use Rattle.fs_trace.proofs.script_text.blocks_of.Goals as goal

pub returns-then-begins_schedule-clause-beginning : goal.returns-then-begins_schedule-clause-beginning
returns-then-begins_schedule-clause-beginning c = (drop c.in-Some.end c.args.text.now, sym (take-append-drop c.in-Some.end c.args.text.now))

pub returns-then-begins_schedule-clause-head : goal.returns-then-begins_schedule-clause-head
returns-then-begins_schedule-clause-head c some =
    cut_found c.args.text.now c.lines.start c.in-Some.end c.in-Some.ensures.0 c.in-Some.ensures.1 (sym c.begins_schedule.ensures ∙ c.if-begins_schedule.true) c.lines.invariant.cut

pub lines-preserved : goal.lines-preserved
lines-preserved c = record {
  within = omega (arith, c.in-Some.ensures.0.high);
  cut = cut_more c.args.text.now c.lines.start c.in-Some.end c.in-Some.ensures.0 c.in-Some.ensures.1 (sym c.begins_schedule.ensures ∙ c.if-begins_schedule.false) c.lines.invariant.cut;
}

pub returns-clause-head : goal.returns-clause-head
returns-clause-head c some = cut_last c.args.text.now c.lines.start c.lines.invariant.within c.in_default.ensures c.lines.invariant.cut some
