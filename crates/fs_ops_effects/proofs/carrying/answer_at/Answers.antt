use Rattle.std.proofs.Common.{None, sym, ap, subst, ◌∙◌}
use Rattle.fs_nodes.specs.Seen.{Seen}
use Rattle.fs_nodes.specs.Stores.{shape, graph_of}
use Rattle.fs_calls.specs.Forms.{Form}
use Rattle.fs_calls.specs.Rows.{node_row}
use Rattle.fs_calls.specs.code.Targets.{form_of, node_call}
use Rattle.fs_ops_effects.specs.Endings.{IsEffect}
use Rattle.fs_ops_effects.specs.Plans.{answered_at}
use Rattle.fs_ops_effects.proofs.AnswerLemmas.{row_effect}
use Rattle.fs_ops_effects.proofs.carrying.answer_at.Goals as goal

pub returns-in-Node-clause-made : goal.returns-in-Node-clause-made
returns-in-Node-clause-made c =
    let old = c.args.store.now in
    subst (λ (f : Form). IsEffect (answered_at (graph_of old) f c.args.node c.args.reserved) c.kept.result (graph_of c.answer.new.store)) (sym (ap (form_of c.args.limits) c.in-Node.is))
    (row_effect (graph_of old) c.args.node c.args.reserved (node_row (node_call c.args.limits c.in-Node.call) None (shape old c.args.node)) c.kept.result (graph_of c.answer.new.store)
    (ap (λ f. f.replies) c.kept.ensures ∙ c.answer.ensures.reply) (ap (λ f. f.reserved) c.kept.ensures) (ap (λ f. f.removed) c.kept.ensures) (ap (λ (s : Seen). s.graph) c.answer.ensures.change))
