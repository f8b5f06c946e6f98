use Rattle.std.proofs.Common.{rules, ◌≡◌, ◌<◌, false, arith}
use Rattle.std.proofs.lemmas.Bool.Decides.{nat_tests}
use Rattle.fs_words.specs.Lines.{is_passed_over}
use Rattle.fs_sched_start.proofs.NodeLines.{told_line}
use Rattle.fs_sched_start.proofs.given.line_behind.Goals as goal

pub lines-preserved-else-told-lines : goal.lines-preserved-else-told-lines
lines-preserved-else-told-lines c =
    let p : is_passed_over c.in-Some.line.now ≡ false = search rules in
    let few = c.lines.invariant.few in
    let more : c.lines.told < c.args.lines = grind (arith, nat_tests) in
    told_line c.args.text.now c.lines.left.now c.in-Some.line.now c.in-Some.rest.now c.lines.number c.lines.told c.args.lines c.lines.invariant c.in-Some.ensures.0 c.in-Some.ensures.1 p more
