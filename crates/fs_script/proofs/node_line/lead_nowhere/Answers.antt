use Rattle.std.proofs.Common.{sym, ◌∙◌}
use Rattle.fs_script.proofs.NodeLines.{steps_lead}
use Rattle.fs_script.proofs.node_line.lead_nowhere.Goals as goal

pub returns-else-is_empty : goal.returns-else-is_empty
returns-else-is_empty c = c.if-is_empty.false ∙ sym (steps_lead c.args.above.now c.args.names.now (sym c.is_empty.ensures ∙ c.if-is_empty.false))
