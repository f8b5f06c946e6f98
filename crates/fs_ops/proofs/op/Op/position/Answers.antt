use Rattle.std.proofs.Common.{◌∙◌}
use Rattle.fs_names.specs.Limits.{in_blocks}
use Rattle.fs_calls.specs.Forms.{form}
use Rattle.fs_ops.specs.OpValue.{op_value}
use Rattle.fs_ops.proofs.HeldLemmas.{finished_position}
use Rattle.fs_ops.proofs.op.Op.position.Goals as goal

pub returns-in-Fixed : goal.returns-in-Fixed
returns-in-Fixed c =
    let o = c.self.inside in
    c.first.ensures ∙ finished_position (in_blocks o.limits) (form o.limits o.call) (op_value o.limits o.call o.stand o.reserved o.removed o.outcome) c.args.self.now o.outcome c.in-Fixed.field-0 c.in-Fixed.held c.in-Fixed.is c.self.invariant.ready c.self.view_is
