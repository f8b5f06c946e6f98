use Rattle.std.proofs.Common.{◌≡◌, ◌∙◌, refl, sym, ap, subst}
use Rattle.std.specs.Option.{is_some}
use Rattle.fs_names.specs.Limits.{in_blocks}
use Rattle.fs_calls.specs.Forms.{form}
use Rattle.fs_nodes.specs.Stores.{graph_of}
use Rattle.fs_machine.specs.OpValues.{OpValue, next_of}
use Rattle.fs_ops.specs.OpValue.{op_value, reply_of}
use Rattle.fs_ops.specs.declared.outcome.Outcome.{Outcome}
use Rattle.fs_ops.specs.PlanOf.{HasSetOut, plan_of, IfFinish, move_of}
use Rattle.fs_ops.specs.declared.next.Next.{Next}
use Rattle.fs_ops.proofs.HeldLemmas.{finished_next, still_open}
use Rattle.fs_ops.proofs.NextLemmas.{next_is}
use Rattle.fs_ops.proofs.PlanLemmas.{way_found}
use Rattle.fs_ops.proofs.op.Op.next.Goals as goal

pub returns-in-Fixed-clause-next : goal.returns-in-Fixed-clause-next
returns-in-Fixed-clause-next c =
    let o = c.self.inside in
    ap move_of c.last_next.ensures
    ∙ finished_next (graph_of c.args.store.now) (in_blocks o.limits) (form o.limits o.call) (op_value o.limits o.call o.stand o.reserved o.removed o.outcome) c.args.self.now o.outcome c.in-Fixed.field-0 c.in-Fixed.held c.in-Fixed.is refl c.self.invariant.ready c.self.view_is

pub returns-in-None-clause-next : goal.returns-in-None-clause-next
returns-in-None-clause-next c =
    let o = c.self.inside in
    let g = graph_of c.args.store.now in
    ap move_of (c.way_next.ensures.next)
    ∙ next_is g o.limits o.call o.stand o.reserved o.removed o.path_error o.outcome c.self.invariant (ap (λ (x : Outcome). is_some (reply_of x)) c.in-Open.is) (sym c.self.invariant.decided ∙ c.in-None.is)
    ∙ ap (next_of g) (still_open o.outcome _ _ c.self.view_is (ap (λ (x : Outcome). is_some (reply_of x)) c.in-Open.is))

pub returns-in-None-clause-plan : goal.returns-in-None-clause-plan
returns-in-None-clause-plan c =
    let o = c.self.inside in
    let g = graph_of c.args.store.now in
    subst (λ (w : OpValue). IfFinish c.way_next.result (λ plan. HasSetOut g w → plan ≡ plan_of g w)) (still_open o.outcome _ _ c.self.view_is (ap (λ (x : Outcome). is_some (reply_of x)) c.in-Open.is))
    (subst (λ (n : Next). IfFinish n (λ plan. HasSetOut g (op_value o.limits o.call o.stand o.reserved o.removed o.outcome) → plan ≡ plan_of g (op_value o.limits o.call o.stand o.reserved o.removed o.outcome)))
    (sym (c.way_next.ensures.next))
    (way_found g (form o.limits o.call) _ o.stand.walk o.stand.fork o.stand.victim o.stand.walk.node refl (sym c.self.invariant.decided ∙ c.in-None.is) c.self.invariant.names c.self.invariant.within c.self.invariant.forks))
