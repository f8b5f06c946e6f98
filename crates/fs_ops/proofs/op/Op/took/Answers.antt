use Rattle.std.proofs.Common.{◌≡◌, ℕ, ◌∙◌, ◌≤◌, length, Option, Some, None, sym, ap, subst, subst₂}
use Rattle.std.specs.Option.{is_some}
use Rattle.fs_names.specs.declared.limits.Limits.TheVariants.{V1}
use Rattle.fs_calls.specs.Forms.{Form}
use Rattle.fs_ops.specs.code.TakeAndLetGo.{TakesTo}
use Rattle.fs_walk.specs.Ways.{Way}
use Rattle.fs_calls.specs.declared.reply.Reply.{Reply}
use Rattle.fs_machine.specs.Moves.{target}
use Rattle.fs_machine.specs.OpValues.{OpValue, IsTook}
use Rattle.fs_ops.specs.OpValue.{Forks, op_value}
use Rattle.fs_ops.proofs.HeldLemmas.{open_took, still_ready}
use Rattle.fs_ops.proofs.TookLemmas.{walk_took, target_took_is, walk_arrived, target_any, forks_any}
use Rattle.fs_ops.proofs.op.Op.took.Goals as goal

pub returns-then-may_take-clause-took : goal.returns-then-may_take-clause-took
returns-then-may_take-clause-took c =
    let o = c.self.inside in
    let taken = walk_took o.limits o.call o.stand o.reserved o.removed o.outcome c.args.node c.self.invariant.names (sym c.may_take.ensures.may ∙ c.if-may_take.true) in
    open_took o.outcome (op_value o.limits o.call o.stand o.reserved o.removed o.outcome) (op_value o.limits o.call (record { walk = c.took.new.self; fork = None; victim = None }) o.reserved o.removed o.outcome) c.args.self.now c.args.node c.self.view_is
    (ap (λ (w : OpValue). is_some w.reply) c.self.view_is ∙ ap (λ (r : Option Reply). is_some r) c.requires)
    (subst (λ (way : Way). IsTook (op_value o.limits o.call o.stand o.reserved o.removed o.outcome) c.args.node (op_value o.limits o.call (record { walk = way; fork = None; victim = None }) o.reserved o.removed o.outcome)) (sym c.took.ensures) taken)

pub returns-else-may_take-clause-took : goal.returns-else-may_take-clause-took
returns-else-may_take-clause-took c =
    let o = c.self.inside in
    let new = c.took_at_target.new.stand in
    open_took o.outcome (op_value o.limits o.call o.stand o.reserved o.removed o.outcome) (op_value o.limits o.call new o.reserved o.removed o.outcome) c.args.self.now c.args.node c.self.view_is
    (ap (λ (w : OpValue). is_some w.reply) c.self.view_is ∙ ap (λ (r : Option Reply). is_some r) c.requires)
    (target_took_is o.limits o.call o.stand new o.reserved o.removed o.outcome c.args.node c.self.invariant.names (sym c.may_take.ensures.may ∙ c.if-may_take.false) c.may_take.ensures.within c.took_at_target.ensures.walk
    (subst (λ (f : Form). (at : ℕ) → o.stand.walk.node ≡ Some at → TakesTo f o.stand.walk at c.args.node o.stand.fork o.stand.victim new.fork new.victim) (c.target.ensures.each o.limits) (c.took_at_target.ensures.stands o.limits)))

pub took_at_target-requires-clause-arrived : goal.took_at_target-requires-clause-arrived
took_at_target-requires-clause-arrived c = (walk_arrived c.self.inside.stand.walk (sym c.may_take.ensures.may ∙ c.if-may_take.false) c.may_take.ensures.within).0

pub took_at_target-requires-clause-names : goal.took_at_target-requires-clause-names
took_at_target-requires-clause-names c =
    let limits = c.self.inside.limits in
    c.self.invariant.names ∙ ap (λ (f : Form). length (target f)) (sym (c.target.ensures.each limits)) ∙ ap length (target_any limits V1 c.target.result)

pub took_at_target-requires-clause-forks : goal.took_at_target-requires-clause-forks
took_at_target-requires-clause-forks c =
    let o = c.self.inside in
    let limits = o.limits in
    forks_any limits V1 c.target.result o.stand.walk o.stand.fork (subst (λ (f : Form). Forks f o.stand.walk o.stand.fork) (sym (c.target.ensures.each limits)) c.self.invariant.forks)

pub invariant_of-self-else-may_take : goal.invariant_of-self-else-may_take
invariant_of-self-else-may_take c =
    let o = c.self.inside in
    let limits = o.limits in
    let walk = c.took_at_target.ensures.walk in
    record {
      decided = c.self.invariant.decided;
      names = ap (λ (w : Way). w.names) walk ∙ c.self.invariant.names;
      within = subst (λ (w : Way). w.walked ≤ w.names) (sym walk) c.self.invariant.within;
      forks = subst₂ (λ (f : Form) (w : Way). Forks f w c.took_at_target.new.stand.fork) (c.target.ensures.each limits) (sym walk) (c.took_at_target.ensures.forks limits);
      ready = still_ready _ _ _ _ o.outcome (ap (λ (w : OpValue). is_some w.reply) c.self.view_is ∙ ap (λ (r : Option Reply). is_some r) c.requires) c.self.invariant.ready;
    }
