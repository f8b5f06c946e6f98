use Rattle.std.proofs.Common.{ℕ, ◌+◌, sym, ◌∙◌, ap₂, subst, get_or, length}
use Rattle.fs_words.specs.Lines.{lines_of}
use Rattle.fs_sched_start.specs.Faults.{told_lines, IsNodeTooMany}
use Rattle.fs_sched_start.proofs.NodeLines.{node_too_many}
use Rattle.fs_sched_start.proofs.given.too_many_nodes.Goals as goal

pub returns : goal.returns
returns c start is many =
    let text = c.args.text.now in
    let limits = c.args.limits in
    let same = c.line_behind.ensures ∙ ap₂ (λ (before nodes : ℕ). get_or (told_lines 1 (lines_of text)) (before + nodes) (length (lines_of text))) c.lines_before.ensures c.nodes.ensures in
    (cc, subst (IsNodeTooMany limits text) (sym same) (node_too_many limits text start is many))
