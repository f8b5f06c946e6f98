use Rattle.std.proofs.Common.{sym, ◌∙◌}
use Rattle.std.proofs.lemmas.Result.{on_ok_weaker}
use Rattle.fs_script.proofs.NodeLines.{root_pushed, root_fits, key_pushed}
use Rattle.fs_script.proofs.node_line.push_key.Goals as goal

pub returns-then-lead_nowhere-clause-ok : goal.returns-then-lead_nowhere-clause-ok
returns-then-lead_nowhere-clause-ok c = on_ok_weaker c.push.result (root_pushed _ _ _ (sym c.lead_nowhere.ensures ∙ c.if-lead_nowhere.true)) c.push.ensures.ok

pub returns-then-lead_nowhere-clause-fits : goal.returns-then-lead_nowhere-clause-fits
returns-then-lead_nowhere-clause-fits c = on_ok_weaker c.push.result (λ h. root_fits c.args.above.now c.args.names.now (sym c.lead_nowhere.ensures ∙ c.if-lead_nowhere.true)) c.push.ensures.ok

pub returns-clause-ok : goal.returns-clause-ok
returns-clause-ok c =
    on_ok_weaker c.push_names.result (key_pushed _ _ _ c.args.above.now c.args.names.now (sym c.lead_nowhere.ensures ∙ c.if-lead_nowhere.false) c.in_ok-push_steps.ensures.ok) c.push_names.ensures.ok
