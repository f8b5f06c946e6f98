use Rattle.std.proofs.Common.{◌≡◌, ◌+◌, ◌-◌, ◌<◌, length, arith}
use Rattle.fs_seq_nodes.specs.code.Nodes.{graph}
use Rattle.fs_seq_nodes.proofs.FormLemmas.{form_attached}
use Rattle.fs_seq.proofs.Made.{is_made}
use Rattle.fs_seq.proofs.create.make.Goals as goal

pub returns-in_ok-attach-in-Ok-clause-given : goal.returns-in_ok-attach-in-Ok-clause-given
returns-in_ok-attach-in-Ok-clause-given c =
    let named : 0 < length c.args.path.now = c.in-Ok.ensures.named in
    let len : (c.len.result - 1) + 1 ≡ length c.args.path.now = omega (arith, c.len.ensures.len) in
    is_made c.args.limits (graph c.args.nodes.now) (graph c.attach.new.nodes) c.args.path.now (c.len.result - 1) c.in-Ok.dir c.in-Ok.i c.name.result.now c.args.node c.requires.forest c.requires.bare c.in-Ok.ensures len c.name.ensures c.in_ok-attach-in-Ok.ensures.ok

pub returns-in_ok-attach-in-Ok-clause-form : goal.returns-in_ok-attach-in-Ok-clause-form
returns-in_ok-attach-in-Ok-clause-form c = form_attached c.args.limits (graph c.args.nodes.now) (graph c.attach.new.nodes) c.in-Ok.dir c.in-Ok.i c.name.result.now _ c.requires.form c.in_ok-attach-in-Ok.ensures.ok
