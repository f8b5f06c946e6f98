use Rattle.std.proofs.Common.{ap, subst}
use Rattle.std.specs.Option.{is_some}
use Rattle.fs_names.specs.Limits.{in_blocks}
use Rattle.fs_calls.specs.Forms.{form}
use Rattle.fs_machine.specs.Records.{taken_if}
use Rattle.fs_ops.specs.OpValue.{IsReady, reply_of, stands}
use Rattle.fs_ops.specs.declared.outcome.Outcome.{Outcome}
use Rattle.fs_ops.proofs.HeldLemmas.{held_begins, last_left, open_let_go}
use Rattle.fs_ops.proofs.op.Op.let_go.Goals as goal

pub returns-in-Fixed-clause-op : goal.returns-in-Fixed-clause-op
returns-in-Fixed-clause-op c =
    let o = c.self.inside in
    last_left o.limits o.call o.stand o.reserved o.removed c.release_removed.new.removed o.outcome c.in-Fixed.field-0 c.in-Fixed.held c.pop.new.self c.pop.result c.args.node c.args.self.now
    c.in-Fixed.is c.self.invariant.ready c.pop.ensures c.release_removed.ensures.removed c.self.view_is

pub invariant_of-self : goal.invariant_of-self
invariant_of-self c =
    let o = c.self.inside in
    let st = stands (form o.limits o.call) o.stand in
    record {
      decided = c.self.invariant.decided;
      names = c.self.invariant.names;
      within = c.self.invariant.within;
      forks = c.self.invariant.forks;
      ready = held_begins c.in-Fixed.held c.pop.new.self (taken_if st) c.pop.result (subst (IsReady (in_blocks o.limits) (form o.limits o.call) st) c.in-Fixed.is c.self.invariant.ready) c.pop.ensures;
    }

pub invariant_of-self-in-Open : goal.invariant_of-self-in-Open
invariant_of-self-in-Open c =
    let o = c.self.inside in
    open_let_go o.limits o.call o.path_error o.stand c.free_behind.new.stand o.outcome (ap (λ (x : Outcome). is_some (reply_of x)) c.in-Open.is) c.free_behind.ensures.walk c.free_behind.ensures.fork c.self.invariant
