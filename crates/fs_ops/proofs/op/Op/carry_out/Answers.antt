use Rattle.std.proofs.Common.{ap, sym, subst, subst₂, ◌∙◌, Option, [], append-nil}
use Rattle.std.specs.Option.{is_some}
use Rattle.fs_calls.specs.Forms.{Form, form}
use Rattle.fs_calls.specs.declared.reply.Reply.{Reply}
use Rattle.fs_nodes.specs.Graphs.{Graph}
use Rattle.fs_nodes.specs.Seen.{seen}
use Rattle.fs_nodes.specs.Stores.{graph_of}
use Rattle.fs_ops_effects.specs.Endings.{IsEffect}
use Rattle.fs_ops_effects.specs.Plans.{carried, CanCarryOut}
use Rattle.fs_ops_effects.specs.declared.plan.Route.{Route}
use Rattle.fs_ops.specs.declared.outcome.Outcome.TheVariants.{Fixed}
use Rattle.fs_ops.specs.OpValue.{op_value, with_held}
use Rattle.fs_ops.specs.PlanOf.{IsPlan}
use Rattle.fs_machine.specs.OpValues.{OpValue, CanFinish, graph_after}
use Rattle.fs_ops.proofs.HeldLemmas.{all_held_is, still_open}
use Rattle.fs_ops.proofs.FinishLemmas.{finished_is, graph_is, finished_as, can_carry_out}
use Rattle.fs_ops.proofs.op.Op.carry_out.Goals as goal

pub carry_out-done-requires-clause-can : goal.carry_out-done-requires-clause-can
carry_out-done-requires-clause-can c =
    let o = c.self.inside in
    let store = seen c.args.store.now in
    subst₂ (λ (f : Form) (z : Route). CanCarryOut store f z o.reserved c.args.plan) (sym (c.target.ensures.each o.limits)) (sym c.route-route.ensures)
    (can_carry_out store o.limits o.call o.stand o.reserved o.removed o.path_error o.outcome c.args.plan c.self.invariant
    (subst (λ (w : OpValue). IsPlan store w c.args.plan) (sym (still_open o.outcome _ _ c.self.view_is (ap (λ (w : OpValue). is_some w.reply) c.self.view_is ∙ ap (λ (r : Option Reply). is_some r) c.requires.unfinished))) c.requires.plan)
    (subst (λ (w : OpValue). CanFinish store.graph w.reserved w.remaining w.holdings) (sym (still_open o.outcome _ _ c.self.view_is (ap (λ (w : OpValue). is_some w.reply) c.self.view_is ∙ ap (λ (r : Option Reply). is_some r) c.requires.unfinished))) c.requires.can))

pub returns-clause-op : goal.returns-clause-op
returns-clause-op c =
    let o = c.self.inside in
    let g = graph_of c.args.store.now in
    let new = graph_of c.carry_out-done.new.store in
    let is = (subst (λ (w : OpValue). IsPlan (seen c.args.store.now) w c.args.plan) (sym (still_open o.outcome _ _ c.self.view_is (ap (λ (w : OpValue). is_some w.reply) c.self.view_is ∙ ap (λ (r : Option Reply). is_some r) c.requires.unfinished))) c.requires.plan).is in
    finished_as g _ c.args.self.now (with_held (Fixed c.carry_out-done.result.replies c.held.result) (op_value o.limits o.call o.stand c.carry_out-done.result.reserved c.carry_out-done.result.removed (Fixed c.carry_out-done.result.replies c.held.result))) (still_open o.outcome _ _ c.self.view_is (ap (λ (w : OpValue). is_some w.reply) c.self.view_is ∙ ap (λ (r : Option Reply). is_some r) c.requires.unfinished))
    (finished_is g o.limits o.call o.stand o.reserved o.removed o.path_error o.outcome c.self.invariant c.args.plan is c.carry_out-done.result new
    (subst₂ (λ (f : Form) (z : Route). IsEffect (carried g f z o.reserved c.args.plan) c.carry_out-done.result new) (c.target.ensures.each o.limits) c.route-route.ensures c.carry_out-done.ensures.made)
    c.held.result (c.held.ensures ∙ all_held_is (form o.limits o.call) o.stand c.self.invariant.forks))

pub returns-clause-change : goal.returns-clause-change
returns-clause-change c =
    let o = c.self.inside in
    let g = graph_of c.args.store.now in
    let new = graph_of c.carry_out-done.new.store in
    let is = (subst (λ (w : OpValue). IsPlan (seen c.args.store.now) w c.args.plan) (sym (still_open o.outcome _ _ c.self.view_is (ap (λ (w : OpValue). is_some w.reply) c.self.view_is ∙ ap (λ (r : Option Reply). is_some r) c.requires.unfinished))) c.requires.plan).is in
    c.carry_out-done.ensures.rest
    ∙ ap (λ (h : Graph). record (seen c.args.store.now) { graph = h })
    (graph_is g o.limits o.call o.stand o.reserved o.removed o.path_error o.outcome c.self.invariant c.args.plan is c.carry_out-done.result new
    (subst₂ (λ (f : Form) (z : Route). IsEffect (carried g f z o.reserved c.args.plan) c.carry_out-done.result new) (c.target.ensures.each o.limits) c.route-route.ensures c.carry_out-done.ensures.made)
    ∙ ap (graph_after g) (still_open o.outcome _ _ c.self.view_is (ap (λ (w : OpValue). is_some w.reply) c.self.view_is ∙ ap (λ (r : Option Reply). is_some r) c.requires.unfinished)))

pub invariant_of-self : goal.invariant_of-self
invariant_of-self c =
    let o = c.self.inside in
    record {
      decided = c.self.invariant.decided;
      names = c.self.invariant.names;
      within = c.self.invariant.within;
      forks = c.self.invariant.forks;
      ready = ([], append-nil c.held.result ∙ (c.held.ensures ∙ all_held_is (form o.limits o.call) o.stand c.self.invariant.forks));
    }
